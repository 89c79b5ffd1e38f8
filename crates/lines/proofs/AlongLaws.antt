-- Where a cell stands on its line, and where the next one does.
use Prim.Native.Nat.{ℕ, ◌+◌, ◌-◌, ◌*◌, ◌/◌, ◌%◌, ◌≤◌, ◌<◌}
use mathlib.Core.Path.{◌≡◌, refl, sym, ◌∙◌, ap, ap₂}
use mathlib.Core.List.{List}
use native.Mathlib.Nat.{mul-zero, mul-suc, mul-add, mul_assoc, mul_comm, mul-le-mul_left}
use native.Mathlib.Numerals.{add-one}
use native.Mathlib.Omega.{arith}
use lib.ListN.{length}
use Rattle.rules.specs.Bytes.{at}
use Rattle.rules.specs.Cell.{cells, singleton, least_over}
use Rattle.laws.proofs.UnionLaws.{digit_mod, digit_div, digit-below}
use Rattle.lines.specs.declared.Along.{Along}
use Rattle.tables.specs.Part.{part, Shaped}
use Rattle.lines.specs.Along.{line_start, Stands, LineOn, least_on, Next}
use Rattle.lines.proofs.LeastLaws.{Axis, line_at, least_at}

abbrev pub along : ℕ → ℕ → ℕ → ℕ → Along
along stp crd back ahead = record { step = stp; card = crd; back = back; ahead = ahead }

module _ {stp crd : ℕ} where
  module _ {c back ahead : ℕ} (s : Stands c (along stp crd back ahead)) where
    abbrev v : ℕ
    v = s.value

    -- its value is one of the condition's
    room : stp * v + stp ≤ stp * crd
    room = omega (arith, mul-le-mul_left stp s.within, mul-suc stp v)

    -- the cell, by its place in its row, its value and its block
    place : c ≡ stp - ahead + stp * v + stp * crd * s.block
    place = let m = s.most in let e = s.is in omega arith

    low : stp - ahead < stp
    low = let m = s.some in let e = s.most in omega arith

    row : c % stp ≡ stp - ahead
    row =
        ap (λ (x : ℕ). x % stp)
        (let e : c ≡ stp - ahead + stp * (v + crd * s.block) = omega (arith, place, mul-add stp v (crd * s.block), mul_assoc stp crd s.block) in e)
        ∙ digit_mod stp (stp - ahead) (v + crd * s.block) low

    number : c / (stp * crd) ≡ s.block
    number = ap (λ (x : ℕ). x / (stp * crd)) place ∙ digit_div (stp * crd) (stp - ahead + stp * v) s.block (digit-below stp (stp - ahead) v crd low s.within)

    pub stands-start : (table : ℕ) → line_start table c stp crd + back ≡ table + c
    stands-start table =
        ap₂ (λ (x y : ℕ). table + (x + y * (stp * crd)) + back) row number
        ∙ (let e = s.back_is in omega (arith, place, mul_comm s.block (stp * crd)))

    module _ (last : ahead ≤ 1) where
      behind : c + 1 ≡ stp * v + stp + stp * crd * s.block
      behind = let e = s.is in let h = s.some in omega arith

      -- the first value of the next block
      stands-block : stp * crd ≤ back + stp → Stands (c + 1) (along stp crd 0 stp)
      stands-block h =
          record {
            value = 0;
            block = s.block + 1;
            is = let e = s.back_is in omega (arith, behind, room, mul-zero stp, more);
            back_is = sym (mul-zero stp);
            within = let w = s.within in omega arith;
            some = let m = s.most in let h = s.some in omega arith;
            most = omega arith;
          }
        where
          more : stp * crd * (s.block + 1) ≡ stp * crd * s.block + stp * crd
          more = rw (add-one s.block) (mul-suc (stp * crd) s.block)

-- from the last cell of a block to the next
module _ {stp crd back ahead : ℕ} where
  pub next-block : ahead ≤ 1 → stp * crd ≤ back + stp → Next (along stp crd back ahead) (along stp crd 0 stp)
  next-block h g = record { step_is = refl; card-is = refl; stands = λ c s. stands-block s h g }

-- a walk over the cells of a table is at cell c, along condition i
pub record Walks (ks : List ℕ) (i c : ℕ) (on : Along) : Type 0 where
  pub axis : Axis ks i on.step on.card
  pub stands : Stands c on

module _ {ks : List ℕ} {i c : ℕ} {on : Along} (shaped : Shaped ks) (x : Walks ks i c on) where
  pub walks_line : (w : List ℕ) (a : ℕ) → a + cells ks ≤ length w → c < cells ks → LineOn w a c on
  walks_line w a h hc = record { line = line_at shaped x.axis w a c h hc; stands = x.stands }

  pub walks_least : (w : List ℕ) (a : ℕ) → c < cells ks → least_on w a c on ≡ at (least_over ks (singleton i) (part w a (cells ks))) c
  walks_least w a hc = least_at shaped x.axis w a c hc

  pub walks_next : {r : Along} → Next on r → Walks ks i (c + 1) r
  walks_next n =
      record {
        axis = record { place = x.axis.place; step_is = n.step_is ∙ x.axis.step_is; card-is = n.card-is ∙ x.axis.card-is };
        stands = n.stands c x.stands;
      }
