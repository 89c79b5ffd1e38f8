-- Demand 2: a join is refused exactly when there are no two such functions, and the limits hold exactly those that can take part.
use Prim.Native.Nat.{ℕ, ◌+◌, ◌-◌, ◌<◌, max}
use mathlib.Core.Path.{◌≡◌, refl, ap, subst}
use mathlib.Core.Bool.{Bool, true, false}
use mathlib.Core.List.{List}
use mathlib.Core.Logic.{◌↔◌}
use native.Mathlib.Nat.{le_refl}
use native.Mathlib.Omega.{arith}
use lib.Dec.{T}
use Rattle.rules.specs.Bytes.{at}
use Rattle.rules.specs.Cell.{Blind, cells}
use Rattle.rules.specs.Limits.{Limits}
use Rattle.rules.specs.Join.{above, u_a, u_b, max_exists, complement, exchange, first_limits, second_limits}
use Rattle.rules.specs.Demands.{Table, Grades, Inside, Pair, JoinExact}
use Rattle.rules.specs.declared.Gate.{Gate}
use Rattle.rules.specs.declared.Gate.TheVariants.{Min, Max}
use Rattle.laws.proofs.OverLaws.{min-bound, over-least, over_blind}
use Rattle.laws.proofs.JoinLaws.{Under, above_le, le_above, greatest_self, greatest-least, u_a-under, u_b-under, exists-at, pair_u_a, pair_l_a, pair_exists}
use Rattle.laws.proofs.TestLaws.{by_order}
use Rattle.laws.proofs.GateLaws.{Good, gate-within, complement-at, exchange_good, max_first_good, turned}

-- by max
module _ (ks : List ℕ) (m s t : ℕ) (l : Limits) (g : Good ks m l) where
  -- the greatest functions that are blind to t, and to s
  abbrev ua : ℕ → ℕ
  ua = at (u_a ks s t l.lower l.upper)

  abbrev ub : ℕ → ℕ
  ub = at (u_b ks s t l.lower l.upper)

  pair_of : (a : ℕ → ℕ) → Blind ks t a → Under ks a ua → Under ks (at l.lower) (λ c. max (a c) (ub c)) → Pair Max ks m s t l a ub
  pair_of a ba h low =
      record {
        first-grades = λ c hc. omega (arith, h c hc, u_a-under ks s t l.lower l.upper c hc, g.top c hc);
        second-grades = λ c hc. omega (arith, u_b-under ks s t l.lower l.upper c hc, g.top c hc);
        first_blind = ba;
        second_blind = over_blind min-bound ks s l.upper;
        inside = λ c hc. (low c hc, omega (arith, h c hc, u_a-under ks s t l.lower l.upper c hc, u_b-under ks s t l.lower l.upper c hc));
      }

  max_pair : T (max_exists ks s t l.lower l.upper) → Pair Max ks m s t l ua ub
  max_pair e = pair_of ua (over_blind min-bound ks t l.upper) (λ c hc. le_refl _) (exists-at ks s t l.lower l.upper e)

  -- a function within the first block's limits
  max-first : (a : ℕ → ℕ) → Blind ks t a → Inside ks (first_limits Max ks m s t l) a → Pair Max ks m s t l a ub
  max-first a ba w =
      pair_of a ba (λ c hc. (w c hc).1)
      (λ c hc.
      by_order (at l.lower c) (ub c) (λ le. omega arith)
      (λ lt. omega (arith, le_above (at l.lower c) (ub c) lt, greatest_self ks t (λ c. above (at l.lower c) (ub c)) c hc, (w c hc).0)))

  module _ (a b : ℕ → ℕ) (p : Pair Max ks m s t l a b) where
    low : Under ks (at l.lower) (λ c. max (a c) (b c))
    low c hc = (p.inside c hc).0

    high : Under ks (λ c. max (a c) (b c)) (at l.upper)
    high c hc = (p.inside c hc).1

    max-exists : T (max_exists ks s t l.lower l.upper)
    max-exists = pair_exists ks s t l.lower l.upper a b p.first_blind p.second_blind low high

    max_takes : Inside ks (first_limits Max ks m s t l) a
    max_takes c hc = (
      pair_l_a ks s t l.lower l.upper a b p.first_blind p.second_blind low high c hc,
      pair_u_a ks s t l.lower l.upper a b p.first_blind p.second_blind low high c hc,
    )

  -- with the first block given
  max-joins : (a : List ℕ) (b : ℕ → ℕ) → Blind ks s b → Inside ks l (λ c. max (at a c) (b c)) → Inside ks (second_limits Max ks m s t l a) b
  max-joins a b bb w c hc = (
    greatest-least ks s (λ c. above (at l.lower c) (at a c)) b bb (λ c hc. above_le (at l.lower c) (at a c) (b c) (λ lt. omega (arith, (w c hc).0))) c hc,
    over-least min-bound ks s l.upper b bb (λ c hc. omega (arith, (w c hc).1)) c hc,
  )

-- by min: the exchange of functions
module _ (ks : List ℕ) (m : ℕ) where
  abbrev back : (ℕ → ℕ) → ℕ → ℕ
  back f c = m - 1 - f c

  blind_back : (u : ℕ) (f : ℕ → ℕ) → Blind ks u f → Blind ks u (back f)
  blind_back u f b c d hc hd e = ap (λ (q : ℕ). m - 1 - q) (b c d hc hd e)

  -- the converse of `turned`
  unturned : (x : Limits) (f : ℕ → ℕ) → Grades ks m f → Inside ks x (back f) → Inside ks (exchange ks m x) f
  unturned x f gf w c hc = omega (arith, complement-at ks m x.upper c hc, complement-at ks m x.lower c hc, w c hc, gf c hc)

  module _ (s t : ℕ) (l : Limits) (g : Good ks m l) where
    pair_turned : (a b : ℕ → ℕ) → Pair Min ks m s t l a b → Pair Max ks m s t (exchange ks m l) (back a) (back b)
    pair_turned a b p =
        record {
          first-grades = λ c hc. omega arith;
          second-grades = λ c hc. omega arith;
          first_blind = blind_back t a p.first_blind;
          second_blind = blind_back s b p.second_blind;
          inside = λ c hc. (omega (arith, complement-at ks m l.upper c hc, (p.inside c hc).1), omega (arith, complement-at ks m l.lower c hc, (p.inside c hc).0));
        }

    -- functions p and q, and their exchanges a and b
    pair_back : (a b p q : ℕ → ℕ) → Pair Max ks m s t (exchange ks m l) p q
        → ((c : ℕ) → c < cells ks → p c + a c ≡ m - 1) → ((c : ℕ) → c < cells ks → q c + b c ≡ m - 1) → Blind ks t a → Blind ks s b → Pair Min ks m s t l a b
    pair_back a b p q w ea eb ba bb =
        record {
          first-grades = λ c hc. omega (arith, ea c hc);
          second-grades = λ c hc. omega (arith, eb c hc);
          first_blind = ba;
          second_blind = bb;
          inside = λ c hc. omega (arith, complement-at ks m l.lower c hc, complement-at ks m l.upper c hc, w.inside c hc, ea c hc, eb c hc, g.room c hc, g.top c hc);
        }

-- a test that passes exactly when there is a pair
refused_when : (P : (ℕ → ℕ) → (ℕ → ℕ) → Type 0) (b : Bool) → (T b → (g : ℕ → ℕ) × (h : ℕ → ℕ) × P g h) → ((g h : ℕ → ℕ) → P g h → T b)
    → (b ≡ false) ↔ ((g h : ℕ → ℕ) → P g h → ⊥)
refused_when P b present back = ((λ e g h p. subst T e (back g h p)), go b present)
  where
    go : (b : Bool) → (T b → (g : ℕ → ℕ) × (h : ℕ → ℕ) × P g h) → ((g h : ℕ → ℕ) → P g h → ⊥) → b ≡ false
    go true f n = let p = f tt in absurd (n p.0 p.1 p.2)
    go false f n = refl

module _ (ks : List ℕ) (m s t : ℕ) (l : Limits) (g : Good ks m l) where
  max-exact : JoinExact Max ks m s t l
  max-exact =
      record {
        refused = refused_when (Pair Max ks m s t l) _ (λ e. (_, _, max_pair ks m s t l g e)) (max-exists ks m s t l g);
        first-exact = λ e a ga ba. ((λ w. (_, max-first ks m s t l g a ba w)), (λ p. max_takes ks m s t l g a p.0 p.1));
        second-exact = λ e a ga ba w b gb bb. (
          (λ v. record { first-grades = ga; second-grades = gb; first_blind = ba; second_blind = bb; inside = gate-within ks m s t Max l a b g e w v }),
          (λ p. max-joins ks m s t l g a b bb p.inside),
        );
      }

  min-exact : JoinExact Min ks m s t l
  min-exact =
      record {
        refused =
            refused_when (Pair Min ks m s t l) _
            (λ e. let p = max_pair ks m s t x gx e in (_, _, return (back ks m a₁) a₁ p (λ c hc. omega (arith, p.first-grades c hc)) (blind_back ks m t a₁ p.first_blind)))
            (λ a b p. max-exists ks m s t x gx _ _ (pair_turned ks m s t l g a b p));
        first-exact = λ e a ga ba. (
          (λ w. (_, return a (back ks m a) (max-first ks m s t x gx (back ks m a) (blind_back ks m t a ba) (turned ks m (first_limits Max ks m s t x) a (max_first_good ks m s t x gx e) w)) (λ c hc. omega (arith, ga c hc)) ba)),
          (λ p. unturned ks m (first_limits Max ks m s t x) a ga (max_takes ks m s t x gx _ _ (pair_turned ks m s t l g a p.0 p.1))),
        );
        second-exact = λ e a ga ba w b gb bb. (
          (λ v. record { first-grades = ga; second-grades = gb; first_blind = ba; second_blind = bb; inside = gate-within ks m s t Min l a b g e w v }),
          (λ p.
              let q = pair_turned ks m s t l g (at a) b p in
              unturned ks m (second_limits Max ks m s t x (complement ks m a)) b gb
              (max-joins ks m s t x gx (complement ks m a) (back ks m b) q.second_blind (λ c hc. rw (complement-at ks m a c hc) (q.inside c hc)))),
        );
      }
    where
      x : Limits
      x = exchange ks m l

      gx : Good ks m x
      gx = exchange_good ks m l g

      a₁ : ℕ → ℕ
      a₁ = ua ks m s t x gx

      b₁ : ℕ → ℕ
      b₁ = ub ks m s t x gx

      return : (a p : ℕ → ℕ) → Pair Max ks m s t x p b₁ → ((c : ℕ) → c < cells ks → p c + a c ≡ m - 1) → Blind ks t a → Pair Min ks m s t l a (back ks m b₁)
      return a p w e ba = pair_back ks m s t l g a (back ks m b₁) p b₁ w e (λ c hc. omega (arith, w.second-grades c hc)) ba (blind_back ks m s b₁ w.second_blind)

pub good_exact : (op : Gate) (ks : List ℕ) (m s t : ℕ) (l : Limits) → Good ks m l → JoinExact op ks m s t l
good_exact Max ks m s t l g = max-exact ks m s t l g
good_exact Min ks m s t l g = min-exact ks m s t l g

pub join_exact : (op : Gate) (ks : List ℕ) (m s t : ℕ) (l : Limits) → Table ks m l → JoinExact op ks m s t l
join_exact op ks m s t l w = good_exact op ks m s t l (record { room = w.ordered; top = w.top })
