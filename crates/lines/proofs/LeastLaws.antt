-- The line through a cell: where it lies, and that its least grade is the least over the condition.
use Prim.Native.Nat.{ℕ, ◌+◌, ◌*◌, ◌/◌, ◌%◌, ◌≤◌, ◌<◌, min}
use mathlib.Core.Path.{◌≡◌, refl, sym, ◌∙◌, ap, ap₂}
use mathlib.Core.Bool.{true, false}
use mathlib.Core.List.{List}
use native.Mathlib.Nat.{mul_comm, mul_assoc, mul-add, mod-lt, mod-add-div, div-div-eq-div-mul}
use native.Mathlib.Omega.{arith}
use lib.ListN.{length, get_or}
use Rattle.rules.specs.Bytes.{at}
use Rattle.rules.specs.Cell.{cells, card, step, singleton, over_to, least_over}
use Rattle.laws.proofs.CellLaws.{div_below, card_pos}
use Rattle.laws.proofs.LineLaws.{step_pos}
use Rattle.laws.proofs.LoopLaws.{card_read, over-steps}
use Rattle.laws.proofs.OverLaws.{min-bound}
use Rattle.laws.proofs.UnionLaws.{digit-below}
use Rattle.tables.specs.Part.{part, Shaped}
use Rattle.tables.specs.Line.{line_best, Line}
use Rattle.lines.specs.Along.{line_start}
use Rattle.tables.proofs.LineLaws.{line-table}
use Rattle.tables.proofs.OverLaws.{Counted, counted}

-- a condition's step and cardinality, as they are computed
pub record Axis (ks : List ℕ) (i stp crd : ℕ) : Type 0 where
  pub place : i < length ks
  pub step_is : stp ≡ step ks i
  pub card-is : crd ≡ get_or ks i 0

-- cell v of the line through cell c lies within the table
line-within : (stp crd count c v : ℕ) → 0 < stp → v < crd → 0 < stp * crd → c < stp * crd * count
    → c % stp + c / (stp * crd) * (stp * crd) + stp * v < stp * crd * count
line-within stp crd count c v p hv q h =
    omega (
      arith,
      mul_comm (c / (stp * crd)) (stp * crd),
      digit-below (stp * crd) (c % stp + stp * v) (c / (stp * crd)) count (digit-below stp (c % stp) v crd (mod-lt c p) hv) (div_below c (stp * crd) count q h),
    )

module _ {ks : List ℕ} {i stp crd : ℕ} (shaped : Shaped ks) (x : Axis ks i stp crd) where
  counts : Counted ks i stp crd (cells ks / (stp * crd))
  counts = counted ks i stp crd (cells ks) shaped.some x.place x.step_is x.card-is refl

  pub steps : 0 < stp
  steps = rw x.step_is (step_pos ks i shaped.some)

  card_as : crd ≡ card ks i
  card_as = x.card-is ∙ card_read ks i x.place

  pub some : 0 < crd
  some = rw card_as (card_pos ks i shaped.some)

  within : (c v : ℕ) → c < cells ks → v < crd → c % stp + c / (stp * crd) * (stp * crd) + stp * v < cells ks
  within c v hc hv =
      omega (arith, counts.all, line-within stp crd (cells ks / (stp * crd)) c v steps hv counts.size (let e = counts.all in omega arith))

  pub block-low : stp * crd ≤ 1024
  block-low = let f = shaped.few in omega (arith, counts.low)

  pub line_at : (w : List ℕ) (a c : ℕ) → a + cells ks ≤ length w → c < cells ks → Line w (line_start a c stp crd) stp crd
  line_at w a c h hc = record { steps = steps; some = some; inside = λ v hv. omega (arith, within c v hc hv) }

  pub least_at : (w : List ℕ) (a c : ℕ) → c < cells ks → line_best false w (line_start a c stp crd) stp crd ≡ at (least_over ks (singleton i) (part w a (cells ks))) c
  least_at w a c hc =
      ap (λ (q : ℕ). line_best false w q stp crd) start
      ∙ sym (line-table false w a (cells ks) stp crd c (c % stp) (c / stp % crd) (c / stp / crd) (mod-lt c steps) (mod-lt (c / stp) some) digits inside)
      ∙ ap₂ (λ (s k : ℕ). over_to min (λ v. true) (λ v. at f (c % s + c / s / k * k * s + v * s)) (at f c) k) x.step_is card_as
      ∙ sym (over-steps min-bound ks f i c shaped.some hc)
    where
      f : List ℕ
      f = part w a (cells ks)

      quotient : c / (stp * crd) * (stp * crd) ≡ stp * crd * (c / stp / crd)
      quotient = mul_comm (c / (stp * crd)) (stp * crd) ∙ ap (λ (q : ℕ). stp * crd * q) (sym (div-div-eq-div-mul c stp crd))

      start : line_start a c stp crd ≡ a + stp * crd * (c / stp / crd) + c % stp
      start = omega (arith, quotient)

      digits : c ≡ c % stp + stp * (c / stp % crd) + stp * crd * (c / stp / crd)
      digits =
          omega (
            arith,
            mod-add-div c stp,
            ap (λ (q : ℕ). stp * q) (mod-add-div (c / stp) crd),
            mul-add stp (c / stp % crd) (crd * (c / stp / crd)),
            mul_assoc stp crd (c / stp / crd),
          )

      inside : (v : ℕ) → v < crd → c % stp + stp * crd * (c / stp / crd) + stp * v < cells ks
      inside v hv = omega (arith, quotient, within c v hc hv)
