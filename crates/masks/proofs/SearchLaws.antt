-- The search for the first pair that joins: its loops' states over any test of pairs, and what they end with.
use Prim.Native.Nat.{ℕ, ◌+◌, ◌≤◌, ◌<◌}
use mathlib.Core.Path.{◌≡◌, refl, sym, ◌∙◌, subst}
use mathlib.Core.Bool.{Bool, true, false, not, ◌&&◌}
use mathlib.Core.List.{List}
use mathlib.Core.Logic.{⊎_elim}
use native.Mathlib.Nat.{eq-or-lt_of_le}
use native.Mathlib.Omega.{arith}
use lib.Dec.{T}
use Rattle.std.specs.Prelude.{Some, None}
use Rattle.rules.specs.Cell.{cells, present, has, singleton}
use Rattle.rules.specs.Bytes.{numbers_from}
use Rattle.rules.specs.Limits.{Limits}
use Rattle.rules.specs.Stage.{none, sets, first_pair}
use Rattle.rules.specs.Join.{join_exists}
use Rattle.rules.specs.declared.Gate.{Gate}
use Rattle.laws.proofs.LoopLaws.{first-none, first-at}
use Rattle.laws.proofs.TestLaws.{passes}
use Rattle.masks.specs.Masks.{Masked, none_both, Union}
use Rattle.masks.specs.Searching.{Searched}
use Rattle.masks.proofs.MaskLaws.{pair_joins}
use Rattle.masks.proofs.UnionLaws.{none_with}

module _ (pair : ℕ → ℕ → Bool) where
  -- the outer loop is at i: no pair whose first condition is below i has passed
  pub record Outer (i : ℕ) : Type 0 where
    pub within : i ≤ 8
    pub below : (h k : ℕ) → h < i → h < k → k < 8 → T (pair h k) → ⊥

  -- the inner loop is at j: no pair of i and a condition below j has passed
  pub record Inner (i j : ℕ) : Type 0 where
    pub above : i < j
    pub within : j ≤ 8
    pub here : (k : ℕ) → i < k → k < j → T (pair i k) → ⊥

module _ {pair : ℕ → ℕ → Bool} where
  pub inner_more : {i j : ℕ} → Inner pair i j → j < 8 → pair i j ≡ false → Inner pair i (j + 1)
  inner_more {i} {j} n h e =
      let a = n.above in
      record {
        above = omega arith;
        within = omega arith;
        here = λ k l g y.
            ⊎_elim (λ q. subst T e (subst (λ (m : ℕ). T (pair i m)) q y)) (λ lt. n.here k l lt y)
            (let le : k ≤ j = omega arith in eq-or-lt_of_le le);
      }

  -- no pair of i passes
  outer_next : {i : ℕ} → Outer pair i → i < 8 → ((k : ℕ) → i < k → k < 8 → T (pair i k) → ⊥) → Outer pair (i + 1)
  outer_next {i = i} o lt refuse =
      record {
        within = omega arith;
        below = λ a k l g u y.
            ⊎_elim (λ q. refuse k (omega arith) u (subst (λ (m : ℕ). T (pair m k)) q y)) (λ lo. o.below a k lo g u y)
            (let le : a ≤ i = omega arith in eq-or-lt_of_le le);
      }

  -- the inner loop is through
  pub outer_more : {i j : ℕ} → Outer pair i → Inner pair i j → 8 ≤ j → i < 8 → Outer pair (i + 1)
  outer_more o n h lt = outer_next o lt (λ k l u. n.here k l (omega arith))

  -- a condition that is not there is in no pair
  pub outer_skip : {i : ℕ} → Outer pair i → i < 8 → ((k : ℕ) → pair i k ≡ false) → Outer pair (i + 1)
  outer_skip o lt refuse = outer_next o lt (λ k l u y. subst T (refuse k) y)

  -- what the search ends with, where the test is that of conditions and of joins
  module _ (is : ℕ → Bool) (joins : ℕ → ℕ → Bool)
      (same : (i j : ℕ) → (is i && (is j && joins (singleton i) (singleton j))) ≡ pair i j) where
    first_no : {i : ℕ} → Outer pair i → 8 ≤ i → none ≡ first_pair is joins (numbers_from 0 8)
    first_no o h = sym (first-none is joins 0 8 (λ a k le g u y. o.below a k (omega arith) g (omega arith) (subst T (same a k) y)))

    first_pair_lem : {i j : ℕ} → Outer pair i → Inner pair i j → j < 8 → pair i j ≡ true
        → sets (singleton i) (singleton j) ≡ first_pair is joins (numbers_from 0 8)
    first_pair_lem {i = i} {j = j} o n h e =
        sym
        (first-at is joins 0 8 i j (omega arith) n.above (omega arith) (passes (same i j ∙ e))
        (λ k x y z. n.here k x y (subst T (same i k) z))
        (λ a k le g u v z. o.below a k g u (omega arith) (subst T (same a k) z)))

-- the test of a pair by the masks t
unfoldable pub admitted : List ℕ → List ℕ → ℕ → ℕ → Bool
admitted ks t i j = present ks i && (present ks j && none_both (cells ks) t i j)

module _ (ks t : List ℕ) (i j : ℕ) where
  -- a condition that is not there
  pub absent_first : present ks i ≡ false → admitted ks t i j ≡ false
  unfolding admitted
  absent_first e = rw e

  pub absent_second : present ks i ≡ true → present ks j ≡ false → admitted ks t i j ≡ false
  unfolding admitted
  absent_second e f = rw (e, f)

  -- where both are there, it is whether the masks that have i have j
  pub both-there : {n beside : ℕ} {member : Bool} → n ≡ cells ks → present ks i ≡ true → present ks j ≡ true
      → Union n t (λ s. has s i) beside → member ≡ has beside j → admitted ks t i j ≡ not member
  unfolding admitted
  both-there q e f u g = rw (e, f, ← q, g) (none_with u j)

module _ {ks t : List ℕ} where
  -- it says which pairs join
  joins-admitted : (op : Gate) (m : ℕ) (l : Limits) → Masked op ks m l t → (i j : ℕ)
      → (present ks i && (present ks j && join_exists op ks m (singleton i) (singleton j) l)) ≡ admitted ks t i j
  unfolding admitted
  joins-admitted op m l b i j = go (present ks i) (present ks j) refl refl
    where
      go : (x y : Bool) → present ks i ≡ x → present ks j ≡ y
          → (x && (y && join_exists op ks m (singleton i) (singleton j) l)) ≡ (x && (y && none_both (cells ks) t i j))
      go false y e f = refl
      go true false e f = refl
      go true true e f = pair_joins op ks m l t i j b (passes e) (passes f)

  -- the search has passed every pair, or found one
  pub found_none : {i : ℕ} → Outer (admitted ks t) i → 8 ≤ i → Searched ks t None
  found_none o h =
      record {
        first = λ op m l b.
            record { is = first_no (present ks) (λ s t. join_exists op ks m s t l) (joins-admitted op m l b) o h; rising = tt };
      }

  pub found_pair : {i j : ℕ} → Outer (admitted ks t) i → Inner (admitted ks t) i j → j < 8
      → admitted ks t i j ≡ true → Searched ks t (Some (i, j))
  found_pair o n h e =
      record {
        first = λ op m l b.
            record {
              is = first_pair_lem (present ks) (λ s t. join_exists op ks m s t l) (joins-admitted op m l b) o n h e;
              rising = (n.above, h);
            };
      }
