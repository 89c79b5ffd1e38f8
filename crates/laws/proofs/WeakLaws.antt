-- Weak joins, with the second set empty: over no condition nothing changes, so such a join always exists.
use Prim.Native.Nat.{ℕ, zero, suc, ◌+◌, ◌*◌, ◌≤◌, ◌<◌}
use mathlib.Core.Path.{◌≡◌, refl, sym, ◌∙◌, subst}
use mathlib.Core.Bool.{Bool, true, false, ◌&&◌}
use mathlib.Core.List.{List, [], ◌∷◌}
use mathlib.Core.Logic.{⊎_elim}
use native.Mathlib.Nat.{le_refl, eq-or-lt_of_le}
use native.Mathlib.Omega.{arith}
use lib.Dec.{T, ltb, ltb→lt}
use lib.ListN.{length}
use Rattle.rules.specs.Bytes.{at, tabulate, numbers_from}
use Rattle.rules.specs.Cell.{Positive, cells, present, width, singleton, without, over}
use Rattle.rules.specs.Limits.{Limits}
use Rattle.rules.specs.Join.{above, u_a, u_b, l_a, exchange_for, join_exists, weak_counts}
use Rattle.rules.specs.Stage.{Stage, left, Weak, nowhere, weakly, first_weak, weak_found, tried, first_stage, may_left, rank}
use Rattle.rules.specs.declared.Gate.{Gate}
use Rattle.rules.specs.declared.Settings.{Settings}
use Rattle.rules.specs.declared.Gate.TheVariants.{Min, Max}
use Rattle.laws.proofs.TestLaws.{and_l, and_r, cond_ok, pick_ok}
use Rattle.laws.proofs.TableLaws.{at-tabulate}
use Rattle.laws.proofs.OverLaws.{Bound, min-bound, max-bound, over-bound, over_self}
use Rattle.laws.proofs.SetLaws.{has_same, has-none}
use Rattle.laws.proofs.CellLaws.{value_inj, agree-value, without_lt}
use Rattle.laws.proofs.LowestLaws.{without-none}
use Rattle.laws.proofs.JoinLaws.{exists_of}
use Rattle.laws.proofs.GateLaws.{Good, exchange_for_good}

module _ {op : ℕ → ℕ → ℕ} {R : ℕ → ℕ → Type 0} (B : Bound op R) where
  pub over_none : (ks : List ℕ) (f : List ℕ) (c : ℕ) → Positive ks → c < cells ks → at (over op ks 0 f) c ≡ at f c
  over_none ks f c p hc =
      sym
      (B.anti (over_self B ks 0 f c hc)
      (over-bound B ks 0 f c (at f c) hc
      (λ d hd a. subst (λ (e : ℕ). R (at f e) (at f c)) (value_inj ks p c d hc hd (λ i. agree-value ks 0 c d i a (has-none i))) (B.self (at f c)))))

-- the first block's limits: the upper ones themselves, and the lower ones where they are above u_b
module _ (ks : List ℕ) (s : ℕ) (l u : List ℕ) (c : ℕ) (p : Positive ks) (hc : c < cells ks) where
  pub weak-upper : at (u_a ks s 0 l u) c ≡ at u c
  weak-upper = over_none min-bound ks u c p hc

  pub weak-lower : at (l_a ks s 0 l u) c ≡ above (at l c) (at (u_b ks s 0 l u) c)
  weak-lower =
      over_none max-bound ks (tabulate (cells ks) (λ d. above (at l d) (at (u_b ks s 0 l u) d))) c p hc
      ∙ at-tabulate (cells ks) (λ d. above (at l d) (at (u_b ks s 0 l u) d)) c hc

pub weak-exists : (op : Gate) (ks : List ℕ) (m s : ℕ) (l : Limits) → Positive ks → Good ks m l → T (join_exists op ks m s 0 l)
weak-exists op ks m s l p g =
    let x = exchange_for op ks m l in
    exists_of ks s 0 x.lower x.upper
    (λ c hc. omega (arith, (exchange_for_good ks m op l g).room c hc, weak-upper ks s x.lower x.upper c p hc))

-- a property of the weak join that is found
abbrev pub WeakOf : (Gate → ℕ → Type 0) → Weak → Type 0
WeakOf P nowhere = Unit {0}
WeakOf P (weakly op i) = P op i

first_of : (P : Gate → ℕ → Type 0) (counts : Gate → ℕ → Bool) (is : List ℕ) → ((op : Gate) (i : ℕ) → T (counts op i) → P op i) → WeakOf P (first_weak counts is)
first_of P counts [] h = tt
first_of P counts (i ∷ is) h =
    cond_ok (WeakOf P) (counts Max i) _ _ (h Max i)
    (λ n. cond_ok (WeakOf P) (counts Min i) _ _ (h Min i) (λ o. first_of P counts is h))

-- its condition is one of the stage's
pub found-present : (m : ℕ) (x : Stage) → WeakOf (λ op i. T (present x.ks i)) (weak_found m x)
found-present m x =
    first_of (λ op i. T (present x.ks i)) (λ op i. present x.ks i && weak_counts op x.ks m i x.limits) (numbers_from 0 (length x.ks))
    (λ op i h. and_l (present x.ks i) (weak_counts op x.ks m i x.limits) h)

-- so where one is tried; and then the stage may
pub tried_may : (how : Settings) (m : ℕ) (may : Bool) (x : Stage) → WeakOf (λ op i. T may × T (present x.ks i)) (tried how m may x)
tried_may how m may x =
    cond_ok (WeakOf (λ op i. T may × T (present x.ks i))) (how.weak && may) (weak_found m x) nowhere
    (λ b. go (weak_found m x) (and_r how.weak may b) (found-present m x)) (λ n. tt)
  where
    go : (w : Weak) → T may → WeakOf (λ op i. T (present x.ks i)) w → WeakOf (λ op i. T may × T (present x.ks i)) w
    go nowhere y h = tt
    go (weakly op i) y h = (y, h)

-- what a search over the numbers from a finds
module _ (counts : Gate → ℕ → Bool) where
  -- one number of which neither gate counts
  weak-next : (a n : ℕ) → ((op : Gate) → T (counts op a) → ⊥) → first_weak counts (numbers_from a (suc n)) ≡ first_weak counts (numbers_from (suc a) n)
  weak-next a n h =
      let w = first_weak counts (numbers_from (suc a) n) in
      cond_ok (λ (v : Weak). v ≡ w) (counts Max a) _ _ (λ b. absurd (h Max b))
      (λ o. cond_ok (λ (v : Weak). v ≡ w) (counts Min a) _ _ (λ b. absurd (h Min b)) (λ q. refl))

  pub weak-none : (a n : ℕ) → ((op : Gate) (i : ℕ) → a ≤ i → i < a + n → T (counts op i) → ⊥) → first_weak counts (numbers_from a n) ≡ nowhere
  weak-none a zero h = refl
  weak-none a (suc n) h =
      weak-next a n (λ op. h op a (le_refl a) (omega arith)) ∙ weak-none (suc a) n (λ op i l u. h op i (omega arith) (omega arith))

  -- the first number of which one does
  pub weak-at : (a n i : ℕ) → a ≤ i → i < a + n → ((op : Gate) (j : ℕ) → a ≤ j → j < i → T (counts op j) → ⊥)
      → (T (counts Max i) → first_weak counts (numbers_from a n) ≡ weakly Max i) × ((T (counts Max i) → ⊥) → T (counts Min i) → first_weak counts (numbers_from a n) ≡ weakly Min i)
  weak-at a zero i l u h = absurd (omega arith)
  weak-at a (suc n) i l u h =
      ⊎_elim
      (λ e. subst (λ (j : ℕ). (T (counts Max j) → first_weak counts (numbers_from a (suc n)) ≡ weakly Max j) × ((T (counts Max j) → ⊥) → T (counts Min j) → first_weak counts (numbers_from a (suc n)) ≡ weakly Min j)) e (here a n))
      (λ lt.
      let r = weak-at (suc a) n i lt (omega arith) (λ op j q v. h op j (omega arith) v) in
      let s = weak-next a n (λ op. h op a (le_refl a) lt) in
      ((λ b. s ∙ r.0 b), (λ o b. s ∙ r.1 o b)))
      (eq-or-lt_of_le l)
    where
      here : (a n : ℕ) → (T (counts Max a) → first_weak counts (numbers_from a (suc n)) ≡ weakly Max a) × ((T (counts Max a) → ⊥) → T (counts Min a) → first_weak counts (numbers_from a (suc n)) ≡ weakly Min a)
      here a n = (
        (λ b. cond_ok (λ (v : Weak). v ≡ weakly Max a) (counts Max a) _ _ (λ y. refl) (λ o. absurd (o b))),
        (λ o b.
            cond_ok (λ (v : Weak). v ≡ weakly Min a) (counts Max a) _ _ (λ y. absurd (o y))
            (λ q. cond_ok (λ (v : Weak). v ≡ weakly Min a) (counts Min a) _ _ (λ y. refl) (λ z. absurd (z b)))),
      )

-- Ranks.
pub rank_left : (may : Bool) (x : Stage) → width (left x).ks ≤ width x.ks → rank (may_left may x) (left x) ≤ rank may x
rank_left true x h = omega arith
rank_left false x h =
    pick_ok (λ (q : ℕ). 2 * width (left x).ks + q ≤ 2 * width x.ks + 0) (ltb (width (left x).ks) (width x.ks)) 1 0
    (λ b. omega (arith, ltb→lt (width (left x).ks) (width x.ks) b)) (λ n. omega arith)

-- the blocks of a weak join: the first may take none and keeps all conditions, the second loses one
pub weak-first-rank : (may : Bool) (m : ℕ) (op : Gate) (s : ℕ) (x : Stage) → T may → rank false (first_stage m op s 0 x) < rank may x
weak-first-rank true m op s x t = rw (without-none x.ks) (omega arith)
weak-first-rank false m op s x t = absurd t

pub one_fewer : (ks : List ℕ) (i : ℕ) → T (present ks i) → width (without (singleton i) ks) < width ks
one_fewer ks i h = without_lt (singleton i) ks i h (has_same 0 i)

-- fewer conditions: a lower rank
pub rank-fewer : (may may' : Bool) (z x : Stage) → width z.ks < width x.ks → rank may z < rank may' x
rank-fewer may may' z x h = pick_ok (λ (q : ℕ). 2 * width z.ks + q < rank may' x) may 1 0 (λ b. omega arith) (λ n. omega arith)
