-- The tables of the cells with one value laid, one behind the other, and the function of these cells given back.
use Prim.Native.Nat.{ℕ, suc, ◌+◌, ◌-◌, ◌*◌, ◌/◌, ◌≤◌, ◌<◌}
use mathlib.Core.Path.{◌≡◌, refl, sym, ◌∙◌, ap, subst}
use mathlib.Core.Bool.{Bool, true, false, ◌||◌}
use mathlib.Core.List.{List}
use mathlib.Core.Logic.{inl, inr}
use native.Mathlib.Nat.{mul-le-mul_right, suc-mul}
use native.Mathlib.Omega.{arith}
use borrow.Author.Count.{below_more}
use lib.Bits.{bit_or}
use lib.ListN.{length}
use Rattle.rules.specs.Bytes.{at, tabulate}
use Rattle.rules.specs.Cell.{has, singleton}
use Rattle.laws.proofs.TestLaws.{failed}
use Rattle.laws.proofs.TableLaws.{length-tabulate_from, at-tabulate}
use Rattle.laws.proofs.SetLaws.{has-or, singleton-has}
use Rattle.tables.specs.Part.{part, Laid, Apart, Two}
use Rattle.tables.proofs.PartLaws.{part_same, laid-part}
use Rattle.moves.specs.Row.{Given}
use Rattle.moves.proofs.RowLaws.{row_number, given_room, given_row, given_both}
use Rattle.masks.specs.Masks.{Beside}
use Rattle.stage_steps.specs.Rows.{value_cells, LayRoom, RowsLaid, GiveRoom}

pub lay_none : (w : List ℕ) (i n stp values c k : ℕ) {tables : ℕ} → tables ≡ 0 → RowsLaid w i n stp values c k tables w
lay_none w i n stp values c k z = record { limits = λ q lt two. absurd (omega arith); masks = λ q lt. absurd (omega arith); before = λ j lt. refl; len = refl }

-- a mask that is equal, and one with a condition more
pub same_beside : {i n : ℕ} (t t' : List ℕ) → t' ≡ t → Beside i n t t'
same_beside t t' e = record { bit = λ c j hc ne. ap (λ (x : List ℕ). has (at x c) j) e }

or_false : (b : Bool) → b || false ≡ b
or_false true = refl
or_false false = refl

more-has : (x i j : ℕ) → (j ≡ i → ⊥) → has (bit_or x (singleton i)) j ≡ has x j
more-has x i j ne =
    has-or x (singleton i) j ∙ ap (λ (b : Bool). has x j || b) (failed (has (singleton i) j) (λ t. ne (singleton-has i j t))) ∙ or_false (has x j)

-- behind some tables of four there is room for one more
pub record LastTable (w : List ℕ) (n c before : ℕ) : Type 0 where
  pub work : 8 * c + 4 * n ≤ length w
  pub bytes : before * n + n ≤ 4 * n
  pub cells : before * c + c ≤ 4 * c

-- one table more
module _ {w : List ℕ} {i n stp values c k tables : ℕ} (p : LayRoom w i n stp values c k tables) (before : ℕ) (e : before + 1 ≡ tables) where
  abbrev to : ℕ
  to = 8 * c + before * n

  abbrev table : List ℕ
  table = value_cells (part w (before * c) (values * n)) n stp values k

  pub lay_before : LayRoom w i n stp values c k before
  lay_before = record { there = p.there; below = p.below; rows = p.rows; few = let f = p.few in omega arith; own = p.own; work = p.work }

  -- its place, of four
  low-bytes : before * n + n ≤ 4 * n
  low-bytes = let f = p.few in let h : suc before * n ≤ 4 * n = mul-le-mul_right n (let g : suc before ≤ 4 = omega arith in g) in omega (arith, suc-mul before n)

  low-cells : before * c + c ≤ 4 * c
  low-cells = let f = p.few in let h : suc before * c ≤ 4 * c = mul-le-mul_right c (let g : suc before ≤ 4 = omega arith in g) in omega (arith, suc-mul before c)

  pub last-table : LastTable w n c before
  last-table = record { work = p.work; bytes = low-bytes; cells = low-cells }

  module _ {w₁ : List ℕ} (l : RowsLaid w i n stp values c k before w₁) where
    pub table-room : Apart w₁ (before * c) (values * n) to n
    table-room =
        let o = p.own in
        let h = p.work in
        let d = l.len in
        let a = low-bytes in
        let b = low-cells in
        record { src = omega arith; dst = omega arith; apart = inl (omega arith) }

    -- it is taken from the stage's own
    own-table : value_cells (part w₁ (before * c) (values * n)) n stp values k ≡ table
    own-table =
        let o = p.own in
        let h = p.work in
        let b = low-cells in
        ap (λ (f : List ℕ). value_cells f n stp values k)
        (part_same w w₁ (before * c) (values * n) (omega arith) l.len (λ j lt. l.before (before * c + j) (omega arith)))

    -- by what stands there
    laid_next : {w' : List ℕ} → (before < 2 → part w' to n ≡ table) → Beside i n table (part w' to n) → ((j : ℕ) → j < to → at w' j ≡ at w₁ j) → length w' ≡ length w₁
        → RowsLaid w i n stp values c k tables w'
    laid_next {w'} limit mask same len =
        record {
          limits = λ q lt two.
              below_more (λ (q : ℕ). q < 2 → part w' (8 * c + q * n) n ≡ value_cells (part w (q * c) (values * n)) n stp values k) before
              (λ q lt two. earlier q lt ∙ l.limits q lt two) limit q (omega arith) two;
          masks = λ q lt.
              below_more (λ (q : ℕ). Beside i n (value_cells (part w (q * c) (values * n)) n stp values k) (part w' (8 * c + q * n) n)) before
              (λ q lt. subst (Beside i n _) (sym (earlier q lt)) (l.masks q lt)) mask q (omega arith);
          before = λ j lt. same j (omega arith) ∙ l.before j lt;
          len = len ∙ l.len;
        }
      where
        earlier : (q : ℕ) → q < before → part w' (8 * c + q * n) n ≡ part w₁ (8 * c + q * n) n
        earlier q lt =
            let f : suc q * n ≤ before * n = mul-le-mul_right n lt in
            let g = suc-mul q n in
            let d = l.len in
            let h = p.work in
            let a = low-bytes in
            part_same w₁ w' (8 * c + q * n) n (omega arith) len (λ j lj. same (8 * c + q * n + j) (omega arith))

    module _ {w₂ : List ℕ} (t : Laid w₁ to (value_cells (part w₁ (before * c) (values * n)) n stp values k) n w₂) where
      pub add-room : to + n ≤ length w₂
      add-room =
          let h = p.work in
          let d = l.len in
          let f = t.len in
          let a = low-bytes in
          omega arith

      table_at : part w₂ to n ≡ table
      table_at = let h = add-room in let f = t.len in laid-part t (omega arith) (length-tabulate_from _ 0 n) ∙ own-table

      pub laid-limits : RowsLaid w i n stp values c k tables w₂
      laid-limits = laid_next (λ two. table_at) (same_beside table (part w₂ to n) table_at) (λ j lt. t.before j lt) t.len

      pub laid-masks : 2 < tables → {w₃ : List ℕ} → Laid w₂ to (tabulate n (λ x. bit_or (at (part w₂ to n) x) (singleton i))) n w₃
          → RowsLaid w i n stp values c k tables w₃
      laid-masks three {w₃} s =
          laid_next (λ two. absurd (omega arith))
          (record {
            bit = λ x j hx ne.
                ap (λ (f : List ℕ). has (at f x) j) (let h = add-room in laid-part s (omega arith) (length-tabulate_from _ 0 n))
                ∙ ap (λ (y : ℕ). has y j) (at-tabulate n _ x hx)
                ∙ more-has (at (part w₂ to n) x) i j ne ∙ ap (λ (f : List ℕ). has (at f x) j) table_at;
          })
          (λ j lt. s.before j lt ∙ t.before j lt) (s.len ∙ t.len)

-- one row of the table at 8 × c, and its place in part 4: its number is no more than where it begins
pub record OneRow (w : List ℕ) (stp values c k r : ℕ) : Type 0 where
  pub room : Two w (8 * c + stp * r) (4 * c + stp * (k + values * r)) stp
  pub low : k + values * r ≤ stp * (k + values * r)

-- some rows given back: one, or the first half and then the others
module _ {w : List ℕ} {stp values c k first last : ℕ} (p : GiveRoom w stp values c k first last) where
  abbrev n : ℕ
  n = c / values

  apart : Apart w (8 * c) n (4 * c) (values * n)
  apart =
      let o = p.own in
      let h = p.work in
      record { src = omega arith; dst = omega arith; apart = inr (omega arith) }

  module _ (e : last - first ≡ 1) where
    one : first < n / stp
    one = let s = p.some in let h = p.within in omega arith

    pub one-row : OneRow w stp values c k first
    one-row = record { room = given_room p.below p.rows apart one; low = row_number p.rows p.below one }

    pub row_given : {w' : List ℕ} → Laid w (4 * c + stp * (k + values * first)) (part w (8 * c + stp * first) stp) stp w'
        → Given w (8 * c) (4 * c) n stp values k first last w'
    row_given {w'} l =
        let s = p.some in
        let f : first + 1 ≡ last = omega arith in
        subst (λ (x : ℕ). Given w (8 * c) (4 * c) n stp values k first x w') f (given_row p.below p.rows apart one l)

  module _ (e : last - first ≡ 1 → ⊥) {middle : ℕ} (m : middle ≡ first + (last - first) / 2) where
    pub half_room : GiveRoom w stp values c k first middle
    half_room =
        let s = p.some in
        let h = p.within in
        record { below = p.below; rows = p.rows; own = p.own; work = p.work; some = omega arith; within = omega arith }

    module _ {w' : List ℕ} (g : Given w (8 * c) (4 * c) n stp values k first middle w') where
      pub rest-room : GiveRoom w' stp values c k middle last
      rest-room =
          let s = p.some in
          let d = g.len in
          let f = p.work in
          record { below = p.below; rows = p.rows; own = p.own; work = omega arith; some = omega arith; within = p.within }

      pub halves_given : {w'' : List ℕ} → Given w' (8 * c) (4 * c) n stp values k middle last w'' → Given w (8 * c) (4 * c) n stp values k first last w''
      halves_given b = let s = p.some in given_both p.below p.rows apart (omega arith) (omega arith) p.within g b
