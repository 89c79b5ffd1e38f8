-- Joins by either gate: facts about max are carried to min by the exchange.
use Prim.Native.Nat.{ℕ, zero, suc, ◌-◌, ◌≤◌, ◌<◌, min, max}
use mathlib.Core.Path.{◌≡◌, sym, ◌∙◌, ap, ap₂}
use mathlib.Core.Bool.{Bool, true, false}
use mathlib.Core.List.{List}
use native.Mathlib.Nat.{le_trans}
use native.Mathlib.Omega.{arith}
use lib.Dec.{T}
use Rattle.rules.specs.Bytes.{pick, at, tabulate}
use Rattle.rules.specs.Cell.{Blind, cells, agree_outside, over_to, least_over, greatest_over}
use Rattle.rules.specs.Limits.{Limits}
use Rattle.rules.specs.Join.{above, u_a, u_b, l_a, l_b, max_exists, complement, exchange, exchange_for, exchange_block_for, join_exists, first_limits, second_limits}
use Rattle.rules.specs.Network.{combine}
use Rattle.rules.specs.Demands.{Inside}
use Rattle.rules.specs.declared.Gate.{Gate}
use Rattle.rules.specs.declared.Gate.TheVariants.{Min, Max}
use Rattle.laws.proofs.TableLaws.{at-tabulate}
use Rattle.laws.proofs.OverLaws.{over_blind, max-bound, min-bound}
use Rattle.laws.proofs.JoinLaws.{Under, join_low, join_high, first-room, second-room, u_a-under, u_b-under}

-- limits of m grades
pub record Good (ks : List ℕ) (m : ℕ) (l : Limits) : Type 0 where
  pub room : Under ks (at l.lower) (at l.upper)
  pub top : Under ks (at l.upper) (λ c. m - 1)

-- limits that are blind to a set
pub record BlindTo (ks : List ℕ) (t : ℕ) (l : Limits) : Type 0 where
  pub lows : Blind ks t (at l.lower)
  pub highs : Blind ks t (at l.upper)

pub complement-at : (ks : List ℕ) (m : ℕ) (t : List ℕ) (c : ℕ) → c < cells ks → at (complement ks m t) c ≡ m - 1 - at t c
complement-at ks m t = at-tabulate (cells ks) (λ c. m - 1 - at t c)

-- the least of what grades lack to n is what the greatest lacks
lacks : (n : ℕ) (q : ℕ → Bool) (f g : ℕ → ℕ) (a e k : ℕ) → e ≡ n - a → ((d : ℕ) → d < k → g d ≡ n - f d)
    → over_to min q g e k ≡ n - over_to max q f a k
lacks n q f g a e zero s h = s
lacks n q f g a e (suc k) s h =
    ap₂ min (lacks n q f g a e k s (λ d l. h d (omega arith))) (go (q k)) ∙ less (over_to max q f a k) (pick (q k) (f k) a)
  where
    go : (t : Bool) → pick t (g k) e ≡ n - pick t (f k) a
    go true = h k (omega arith)
    go false = s

    less : (x y : ℕ) → min (n - x) (n - y) ≡ n - max x y
    less x y = omega arith

-- so the exchange turns the greatest over a set into the least
pub least-complement : (ks : List ℕ) (m t : ℕ) (f : List ℕ) (c : ℕ) → c < cells ks
    → at (least_over ks t (complement ks m f)) c ≡ m - 1 - at (greatest_over ks t f) c
least-complement ks m t f c hc =
    at-tabulate (cells ks) _ c hc
    ∙ lacks (m - 1) (agree_outside ks t c) (at f) (at (complement ks m f)) (at f c) (at (complement ks m f) c) (cells ks)
    (complement-at ks m f c hc) (complement-at ks m f)
    ∙ ap (λ (x : ℕ). m - 1 - x) (sym (at-tabulate (cells ks) _ c hc))

module _ (ks : List ℕ) (m : ℕ) where
  pub exchange_good : (l : Limits) → Good ks m l → Good ks m (exchange ks m l)
  exchange_good l g =
      record {
        room = λ c hc. omega (arith, complement-at ks m l.lower c hc, complement-at ks m l.upper c hc, g.room c hc);
        top = λ c hc. omega (arith, complement-at ks m l.lower c hc);
      }

  pub exchange_for_good : (op : Gate) (l : Limits) → Good ks m l → Good ks m (exchange_for op ks m l)
  exchange_for_good Max l g = g
  exchange_for_good Min l g = exchange_good l g

  pub complement_blind : (t : ℕ) (f : List ℕ) → Blind ks t (at f) → Blind ks t (at (complement ks m f))
  complement_blind t f b c d hc hd a = complement-at ks m f c hc ∙ ap (λ (x : ℕ). m - 1 - x) (b c d hc hd a) ∙ sym (complement-at ks m f d hd)

  exchange_for_blind : (op : Gate) (t : ℕ) (l : Limits) → BlindTo ks t l → BlindTo ks t (exchange_for op ks m l)
  exchange_for_blind Max t l b = b
  exchange_for_blind Min t l b = record { lows = complement_blind t l.upper b.highs; highs = complement_blind t l.lower b.lows }

min-high : (n u b h : ℕ) → b ≤ n → h ≤ n → n - u ≤ max (n - b) (n - h) → min b h ≤ u
min-high n u b h p q e = omega arith

-- a block within the exchanged limits, turned, is within the limits
pub turned : (ks : List ℕ) (m : ℕ) (x : Limits) (f : ℕ → ℕ) → Good ks m x → Inside ks (exchange ks m x) f → Inside ks x (λ c. m - 1 - f c)
turned ks m x f g w c hc = omega (arith, w c hc, complement-at ks m x.lower c hc, complement-at ks m x.upper c hc, g.room c hc, g.top c hc)

module _ (ks : List ℕ) (m s t : ℕ) where
  pub first_blind : (op : Gate) (l : Limits) → BlindTo ks t (first_limits op ks m s t l)
  first_blind op l =
      let x = exchange_for op ks m l in
      exchange_for_blind ks m op t (record { lower = l_a ks s t x.lower x.upper; upper = u_a ks s t x.lower x.upper })
      (record {
        lows = over_blind max-bound ks t (tabulate (cells ks) (λ c. above (at x.lower c) (at (u_b ks s t x.lower x.upper) c)));
        highs = over_blind min-bound ks t x.upper;
      })

  pub second_blind : (op : Gate) (l : Limits) (b : List ℕ) → BlindTo ks s (second_limits op ks m s t l b)
  second_blind op l b =
      let x = exchange_for op ks m l in
      exchange_for_blind ks m op s (record { lower = l_b ks s t x.lower x.upper (exchange_block_for op ks m b); upper = u_b ks s t x.lower x.upper })
      (record {
        lows = over_blind max-bound ks s (tabulate (cells ks) (λ c. above (at x.lower c) (at (exchange_block_for op ks m b) c)));
        highs = over_blind min-bound ks s x.upper;
      })

  pub max_first_good : (l : Limits) → Good ks m l → T (max_exists ks s t l.lower l.upper)
      → Good ks m (record { lower = l_a ks s t l.lower l.upper; upper = u_a ks s t l.lower l.upper })
  max_first_good l g e =
      record {
        room = first-room ks s t l.lower l.upper e;
        top = λ c hc. le_trans (u_a-under ks s t l.lower l.upper c hc) (g.top c hc);
      }

  pub max_second_good : (l : Limits) (b : List ℕ) → Good ks m l → Under ks (at (l_a ks s t l.lower l.upper)) (at b)
      → Good ks m (record { lower = l_b ks s t l.lower l.upper b; upper = u_b ks s t l.lower l.upper })
  max_second_good l b g h =
      record {
        room = second-room ks s t l.lower l.upper b h;
        top = λ c hc. le_trans (u_b-under ks s t l.lower l.upper c hc) (g.top c hc);
      }

  pub first_good : (op : Gate) (l : Limits) → Good ks m l → T (join_exists op ks m s t l) → Good ks m (first_limits op ks m s t l)
  first_good op l g e = exchange_for_good ks m op _ (max_first_good (exchange_for op ks m l) (exchange_for_good ks m op l g) e)

  module _ (l : Limits) (g : Good ks m l) (e : T (join_exists Min ks m s t l)) (b : List ℕ) (w : Inside ks (first_limits Min ks m s t l) (at b)) where
    x : Limits
    x = exchange ks m l

    first-turned : Inside ks (record { lower = l_a ks s t x.lower x.upper; upper = u_a ks s t x.lower x.upper }) (λ c. m - 1 - at b c)
    unfolding x
    first-turned = turned ks m _ (at b) (max_first_good (exchange ks m l) (exchange_good ks m l g) e) w

    turned_good : Good ks m (record { lower = l_b ks s t x.lower x.upper (complement ks m b); upper = u_b ks s t x.lower x.upper })
    unfolding x
    turned_good =
        max_second_good (exchange ks m l) (complement ks m b) (exchange_good ks m l g) (λ c hc. rw (complement-at ks m b c hc) (first-turned c hc).0)

    min-within : (h : ℕ → ℕ) → Inside ks (second_limits Min ks m s t l b) h → Inside ks l (λ c. min (at b c) (h c))
    unfolding x
    min-within h v c hc = (
      omega (arith, high c hc, complement-at ks m b c hc, complement-at ks m l.lower c hc, g.room c hc, g.top c hc),
      min-high (m - 1) (at l.upper c) (at b c) (h c) (under-complement (l_a ks s t x.lower x.upper) (at b c) c hc (w c hc).1)
          (under-complement (l_b ks s t x.lower x.upper (complement ks m b)) (h c) c hc (v c hc).1)
          (rw (← (complement-at ks m b c hc), ← (complement-at ks m l.upper c hc)) (low c hc)),
    )
      where
        under-complement : (y : List ℕ) (q c : ℕ) → c < cells ks → q ≤ at (complement ks m y) c → q ≤ m - 1
        under-complement y q c hc h = omega (arith, complement-at ks m y c hc)

        second-turned : Inside ks (record { lower = l_b ks s t x.lower x.upper (complement ks m b); upper = u_b ks s t x.lower x.upper }) (λ c. m - 1 - h c)
        second-turned = turned ks m _ h turned_good v

        low : Under ks (at x.lower) (λ c. max (at (complement ks m b) c) (m - 1 - h c))
        low = join_low ks s t x.lower x.upper (complement ks m b) (λ c. m - 1 - h c) (λ c hc. (second-turned c hc).0)

        high : Under ks (λ c. max (m - 1 - at b c) (m - 1 - h c)) (at x.upper)
        high = join_high ks s t x.lower x.upper (λ c. m - 1 - at b c) (λ c. m - 1 - h c) (λ c hc. (first-turned c hc).1) (λ c hc. (second-turned c hc).1)

  pub second_good : (op : Gate) (l : Limits) (b : List ℕ) → Good ks m l → T (join_exists op ks m s t l) → Inside ks (first_limits op ks m s t l) (at b) → Good ks m (second_limits op ks m s t l b)
  unfolding x
  second_good Max l b g e w = max_second_good l b g (λ c hc. (w c hc).0)
  second_good Min l b g e w = exchange_good ks m _ (turned_good l g e b w)

  pub gate-within : (op : Gate) (l : Limits) (b : List ℕ) (h : ℕ → ℕ) → Good ks m l → T (join_exists op ks m s t l) → Inside ks (first_limits op ks m s t l) (at b) → Inside ks (second_limits op ks m s t l b) h
      → Inside ks l (λ c. combine op (at b c) (h c))
  unfolding x
  gate-within Max l b h g e w v =
      λ c hc. (join_low ks s t l.lower l.upper b h (λ c hc. (v c hc).0) c hc, join_high ks s t l.lower l.upper (at b) h (λ c hc. (w c hc).1) (λ c hc. (v c hc).1) c hc)
  gate-within Min l b h g e w v = min-within l g e b w h v
