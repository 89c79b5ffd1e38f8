-- The values of all conditions at a cell, place by place.
use Prim.Native.Nat.{ℕ, ◌+◌, ◌/◌, ◌%◌, ◌≤◌, ◌<◌}
use mathlib.Core.Path.{◌≡◌, refl, sym, ◌∙◌, ap, ap₂}
use mathlib.Core.List.{List}
use native.Mathlib.Nat.{le_refl}
use native.Mathlib.Numerals.{add-one}
use native.Mathlib.Omega.{arith}
use borrow.Author.Count.{below_more}
use lib.ListN.{length, set, length-set, get_or-eq_default}
use lib.Seq.{get_or-set_same, get_or-set_other}
use Rattle.rules.specs.Bytes.{at}
use Rattle.rules.specs.Cell.{Positive, card, step, value}
use Rattle.laws.proofs.TestLaws.{by_order}
use Rattle.laws.proofs.LineLaws.{rest-next, value-step}
use Rattle.laws.proofs.LoopLaws.{card_read, step-none}
use Rattle.laws.proofs.NumberLaws.{card-positive, value_past}

-- the first i values are there, then cardinalities, and what is left of the cell's number
pub record ValuesTo (ks : List ℕ) (cell : ℕ) (values : List ℕ) (rest i : ℕ) : Type 0 where
  pub long : length values ≡ 8
  pub left : rest ≡ cell / step ks i
  pub below : (j : ℕ) → j < i → at values j ≡ value ks cell j
  pub above : (j : ℕ) → i ≤ j → at values j ≡ at ks j

pub values-none : (ks : List ℕ) (cell : ℕ) → length ks ≡ 8 → ValuesTo ks cell ks cell 0
values-none ks cell eight = record { long = eight; left = sym (step-none ks cell); below = λ j h. absurd (omega arith); above = λ j h. refl }

module _ (ks : List ℕ) (eight : length ks ≡ 8) (cell : ℕ) (values : List ℕ) (rest i : ℕ) (v : ValuesTo ks cell values rest i) where
  module _ (k : ℕ) (read : k ≡ at values i) (l : i < 8) where
    read_card : k ≡ card ks i
    read_card = read ∙ v.above i (le_refl i) ∙ card_read ks i (omega arith)

    -- no cardinality is 0
    pub values-positive : Positive ks → 1 ≤ k
    values-positive p = omega (arith, read, v.above i (le_refl i), card-positive ks i (omega arith) p)

    pub values-next : ValuesTo ks cell (set values i (rest % k)) (rest / k) (i + 1)
    values-next =
        record {
          long = length-set values i (rest % k) ∙ v.long;
          left = ap₂ (λ (x y : ℕ). x / y) v.left read_card ∙ rest-next ks cell i ∙ ap (λ (n : ℕ). cell / step ks n) (sym (add-one i));
          below =
              below_more _ i (λ j h. get_or-set_other values i j (rest % k) 0 (λ q. omega arith) ∙ v.below j h)
              (get_or-set_same values i (rest % k) 0 (omega (arith, v.long)) ∙ ap₂ (λ (x y : ℕ). x % y) v.left read_card ∙ sym (value-step ks cell i));
          above = λ j h. get_or-set_other values i j (rest % k) 0 (λ q. omega arith) ∙ v.above j (omega arith);
        }

  pub values-all : 8 ≤ i → (j : ℕ) → at values j ≡ value ks cell j
  values-all h j =
      by_order 8 j (λ past. get_or-eq_default values 0 (omega (arith, v.long)) ∙ sym (value_past ks cell j (omega arith)))
      (λ l. v.below j (omega arith))
