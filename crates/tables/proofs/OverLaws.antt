-- Over one condition.
use Prim.Native.Nat.{ℕ, zero, suc, ◌+◌, ◌*◌, ◌/◌, ◌≤◌, ◌<◌}
use mathlib.Core.Path.{◌≡◌, refl, sym, ◌∙◌, ap, ap₂}
use mathlib.Core.Bool.{Bool}
use mathlib.Core.List.{List, [], ◌∷◌}
use native.Mathlib.Nat.{mul_assoc, one-mul, mul-zero, mul-div_cancel_left}
use native.Mathlib.Omega.{arith}
use lib.ListN.{length, drop, get_or}
use Rattle.rules.specs.Bytes.{at}
use Rattle.rules.specs.Cell.{Positive, cells, card, step, singleton, over}
use Rattle.laws.proofs.CellLaws.{card_pos}
use Rattle.laws.proofs.LineLaws.{step_pos, step-next}
use Rattle.laws.proofs.LoopLaws.{card_read, step_le, over-steps}
use Rattle.laws.proofs.TableLaws.{at-tabulate}
use Rattle.tables.specs.Line.{best, Blocks, along_lines}
use Rattle.tables.proofs.LineLaws.{best-bound}

-- the places from i on
pub step-rest : (ks : List ℕ) (i : ℕ) → step ks i * cells (drop i ks) ≡ cells ks
step-rest [] zero = refl
step-rest [] (suc i) = refl
step-rest (k ∷ ks) zero = one-mul (cells (k ∷ ks))
step-rest (k ∷ ks) (suc i) = mul_assoc k (step ks i) (cells (drop i ks)) ∙ ap (λ (x : ℕ). k * x) (step-rest ks i)

-- a table's blocks for condition i, from what is computed of its places
pub record Counted (ks : List ℕ) (i stp crd count : ℕ) : Type 0 where
  pub step_is : stp ≡ step ks i
  pub card-is : crd ≡ card ks i
  pub count-is : count ≡ cells (drop (suc i) ks)
  pub all : stp * crd * count ≡ cells ks
  pub steps : 0 < stp
  pub some : 0 < crd
  pub size : 0 < stp * crd
  pub low : stp * crd ≤ cells ks

pub counted : (ks : List ℕ) (i stp crd total : ℕ) → Positive ks → i < length ks → stp ≡ step ks i → crd ≡ get_or ks i 0 → total ≡ cells ks → Counted ks i stp crd (total / (stp * crd))
counted ks i stp crd total p h es ec et =
    record {
      step_is = es;
      card-is = ec ∙ card_read ks i h;
      count-is = quotient;
      steps = rw es (step_pos ks i p);
      some = rw (ec ∙ card_read ks i h) (card_pos ks i p);
      all = ap (λ (x : ℕ). stp * crd * x) quotient ∙ sym whole;
      size = size;
      low = rw block (step_le ks (suc i) p);
    }
  where
    block : stp * crd ≡ step ks (suc i)
    block = ap₂ (λ (x y : ℕ). x * y) es (ec ∙ card_read ks i h) ∙ sym (step-next ks i)

    size : 0 < stp * crd
    size = rw block (step_pos ks (suc i) p)

    whole : cells ks ≡ stp * crd * cells (drop (suc i) ks)
    whole = sym (step-rest ks (suc i)) ∙ ap (λ (x : ℕ). x * cells (drop (suc i) ks)) (sym block)

    quotient : total / (stp * crd) ≡ cells (drop (suc i) ks)
    quotient = ap (λ (x : ℕ). x / (stp * crd)) (et ∙ whole) ∙ mul-div_cancel_left (cells (drop (suc i) ks)) size

-- there is one
pub blocks_some : {ks : List ℕ} {i stp crd count : ℕ} → Counted ks i stp crd count → 0 < count
blocks_some {ks} {i} {stp} {crd} {count} n = go count n.all
  where
    go : (c : ℕ) → stp * crd * c ≡ cells ks → 0 < c
    go zero e = absurd (let l = n.low in let s = n.size in omega (arith, mul-zero (stp * crd)))
    go (suc c) e = omega arith

pub counted_blocks : {ks : List ℕ} {i stp crd count : ℕ} (w : List ℕ) (a : ℕ) → Counted ks i stp crd count → a + cells ks ≤ length w → Blocks w a count stp crd
counted_blocks w a n h = record { steps = n.steps; some = n.some; more = blocks_some n; inside = let e = n.all in omega arith }

-- the extremes along the lines of a condition are those over it
pub along-over : (greatest : Bool) (ks g : List ℕ) (i n k : ℕ) → Positive ks → i < length ks → n ≡ cells ks → k < n
    → at (along_lines greatest g (step ks i) (card ks i) (n / (step ks i * card ks i))) k ≡ at (over (best greatest) ks (singleton i) g) k
unfolding along_lines
along-over greatest ks g i n k p h e lt =
    let c = counted ks i (step ks i) (card ks i) n p h refl (sym (card_read ks i h)) e in
    at-tabulate (step ks i * card ks i * (n / (step ks i * card ks i))) _ k (omega (arith, c.all)) ∙ sym (over-steps (best-bound greatest) ks g i k p (omega arith))
