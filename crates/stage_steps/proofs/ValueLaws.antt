-- What a split does for one value: the tables before that value's stage, the gates behind it.
use Prim.Native.Nat.{ℕ, suc, ◌+◌, ◌*◌, ◌/◌, ◌≤◌, ◌<◌}
use mathlib.Core.Path.{◌≡◌, refl, sym, ◌∙◌, ap, subst}
use mathlib.Core.List.{List, [], ◌∷◌}
use mathlib.Core.Logic.{inl, inr}
use native.Mathlib.Nat.{le_refl, mul-zero, zero-add, one-mul, mul_comm, mul_assoc, mul-le-mul_right, suc-mul, mul-div_cancel_left}
use native.Mathlib.Omega.{arith}
use lib.Dec.{eqb}
use lib.ListN.{length}
use lib.Seq.{ext_get_or}
use Rattle.rules.specs.declared.Gate.TheVariants.{Min, Max}
use Rattle.rules.specs.Bytes.{at, pick, tabulate}
use Rattle.rules.specs.Network.{literal}
use Rattle.rules.specs.Tree.{lookup}
use Rattle.laws.proofs.TestLaws.{by_order}
use Rattle.laws.proofs.TableLaws.{length-tabulate_from, at-tabulate}
use Rattle.tables.specs.Part.{part, Laid, Apart}
use Rattle.tables.proofs.PartLaws.{part_at, part_length}
use Rattle.tables.specs.Line.{Spread}
use Rattle.moves.specs.Row.{in_row, Rows, Scattered, Given}
use Rattle.moves.proofs.RowLaws.{in_row-below, in_row_past, rows_times, rows_all, taken-single, given_single, given_all}
use Rattle.network_records.specs.Putting.{Put}
use Rattle.stage_steps.specs.declared.gates.Extent.{Extent}
use Rattle.stage_steps.specs.Extents.{GatePut}
use Rattle.stage_steps.specs.Rows.{value_cells, LayRoom, RowsLaid, GiveRoom}
use Rattle.stage_steps.specs.Values.{ValueRoom, ValueBegun, KeepRoom, ValueEnded}
use Rattle.stage_steps.proofs.LayLaws.{same_beside}
use Rattle.stage_steps.proofs.ExtentLaws.{tree-one}

-- rows of one cell are as far apart as there are values
single-gap : (stp values : ℕ) {apart : ℕ} → apart ≡ stp * values → stp ≡ 1 → apart ≡ values
single-gap stp values g e = g ∙ ap (λ (x : ℕ). x * values) e ∙ one-mul values

module _ {w : List ℕ} {i n stp apart values c k r : ℕ} (p : ValueRoom w i n stp apart values c k r) where
  pub lay_room : LayRoom w i n stp values c k 4
  lay_room = record { there = p.there; below = p.below; rows = p.rows; few = omega arith; own = p.own; work = p.work }

  -- so many tables, side by side
  several : (q : ℕ) → values * (q * n) ≡ q * c
  several q = let o = p.own in ap (λ (x : ℕ). values * x) (mul_comm q n) ∙ sym (mul_assoc values n q) ∙ ap (λ (x : ℕ). x * q) o ∙ mul_comm c q

  tables-rows : Rows stp (4 * n)
  tables-rows = rows_times 4 p.rows

  -- one move takes all, where a row is one cell
  module _ (e : stp ≡ 1) where
    gap : apart ≡ values
    gap = single-gap stp values p.gap e

    pub single-below : k < apart
    single-below = let h = p.below in let g = gap in omega arith

    pub single-room : Apart w 0 (apart * (4 * n)) (8 * c) (4 * n)
    single-room =
        let h = p.work in
        let t = several 4 in
        let g = ap (λ (x : ℕ). x * (4 * n)) gap in
        record { src = omega arith; dst = omega arith; apart = inl (omega arith) }

    module _ {w' : List ℕ} (m : Laid w (8 * c) (tabulate (4 * n) (λ j. at (part w 0 (apart * (4 * n))) (k + apart * j))) (4 * n) w') where
      l : Laid w (8 * c) (value_cells (part w 0 (values * (4 * n))) (4 * n) stp values k) (4 * n) w'
      l =
          subst (λ (x : ℕ). Laid w (8 * c) (value_cells (part w 0 (x * (4 * n))) (4 * n) stp x k) (4 * n) w') gap
          (taken-single apart k (part w 0 (apart * (4 * n))) e m)

      -- cell j of any
      cell : (j : ℕ) → j < 4 * n → at w' (8 * c + j) ≡ at w (in_row stp values k j)
      cell j h =
          l.here j h ∙ at-tabulate (4 * n) _ j h ∙ part_at w 0 (values * (4 * n)) (in_row stp values k j) (in_row-below tables-rows p.below j h) ∙ ap (at w) (zero-add (in_row stp values k j))

      -- table q, which has c cells, gives n
      given : (q : ℕ) → q < 4 → part w' (8 * c + q * n) n ≡ value_cells (part w (q * c) (values * n)) n stp values k
      given q lt =
          let h : suc q * n ≤ 4 * n = mul-le-mul_right n lt in
          let z = suc-mul q n in
          let e' = l.len in
          let f = p.work in
          let m : length (part w' (8 * c + q * n) n) ≡ n = part_length w' (8 * c + q * n) n (omega arith) in
          ext_get_or 0 (part w' (8 * c + q * n) n) (value_cells (part w (q * c) (values * n)) n stp values k) (m ∙ sym (length-tabulate_from _ 0 n))
          (λ j lt.
          let y : j < n = omega arith in
          let i : 8 * c + q * n + j ≡ 8 * c + (q * n + j) = omega arith in
          let o : in_row stp values k (q * n + j) ≡ q * c + in_row stp values k j = in_row_past values k j (rows_times q p.rows) ∙ ap (λ (x : ℕ). x + in_row stp values k j) (several q) in
          part_at w' (8 * c + q * n) n j y ∙ ap (at w') i ∙ cell (q * n + j) (omega arith) ∙ ap (at w) o
          ∙ sym (part_at w (q * c) (values * n) (in_row stp values k j) (in_row-below p.rows p.below j y)) ∙ sym (at-tabulate n _ j y))

      pub single-laid : RowsLaid w i n stp values c k 4 w'
      single-laid = record { limits = λ q lt two. given q lt; masks = λ q lt. same_beside _ _ (given q lt); before = l.before; len = l.len }

  pub value-begun : {w' : List ℕ} {top : ℕ} {net net' : List ℕ} → RowsLaid w i n stp values c k 4 w' → Put net r (literal i (tabulate values (λ v. pick (eqb v k) top 0)) ∷ []) net'
      → ValueBegun i stp values n c k top w net r (record { next = r + 1; depth = 0 }) w' net'
  value-begun {top = top} t q = record { put = tree-one (lookup i (tabulate values (λ v. pick (eqb v k) top 0))) refl refl q; tables = t }

module _ {w : List ℕ} {n stp apart values c k : ℕ} (p : KeepRoom w n stp apart values c k) where
  pub count-is : c / values ≡ n
  count-is = ap (λ (x : ℕ). x / values) (sym p.own) ∙ mul-div_cancel_left n (let h = p.below in omega arith)

  module _ (e : stp ≡ 1) where
    keep_gap : apart ≡ values
    keep_gap = single-gap stp values p.gap e

    pub keep_below : k < apart
    keep_below = let h = p.below in let g = keep_gap in omega arith

    pub keep_room : Apart w (8 * c) n (4 * c) (apart * n)
    keep_room =
        let o = p.own in
        let h = p.work in
        let g = ap (λ (x : ℕ). x * n) keep_gap in
        record { src = omega arith; dst = omega arith; apart = inr (omega arith) }

    pub keep_single : {w' : List ℕ} → Spread w (4 * c + k) apart (at (part w (8 * c) n)) n w' → Scattered w (4 * c) (in_row stp values k) (at (part w (8 * c) n)) n w'
    keep_single {w'} l = given_single (4 * c) k e (subst (λ (x : ℕ). Spread w (4 * c + k) x (at (part w (8 * c) n)) n w') keep_gap l)

  -- and by rows
  pub keep_rows : GiveRoom w stp values c k 0 (n / stp)
  keep_rows =
      let h = p.work in
      let e = count-is in
      record {
        below = p.below;
        rows = subst (λ (x : ℕ). Rows stp x) (sym e) p.rows;
        own = ap (λ (x : ℕ). values * x) e ∙ p.own;
        work = omega arith;
        some =
            by_order (n / stp) 0 (λ none. absurd (let z : n / stp ≡ 0 = omega arith in omega (arith, p.some, rows_all p.rows, ap (λ (x : ℕ). stp * x) z, mul-zero stp)))
            (λ lt. lt);
        within = subst (λ (x : ℕ). n / stp ≤ x / stp) (sym e) (le_refl (n / stp));
      }

  pub keep_given : {w' : List ℕ} → Given w (8 * c) (4 * c) (c / values) stp values k 0 (n / stp) w'
      → Scattered w (4 * c) (in_row stp values k) (at (part w (8 * c) n)) n w'
  keep_given {w'} g =
      let o = p.own in
      let h = p.work in
      given_all p.below p.rows (record { src = omega arith; dst = omega arith; apart = inr (omega arith) })
      (subst (λ (x : ℕ). Given w (8 * c) (4 * c) x stp values k 0 (n / stp) w') count-is g)

-- the gates of the first value, and of one after it
module _ {k : ℕ} {total literal of : Extent} {net : List ℕ} {part : Extent} {v : List ℕ} (g : GatePut Min literal of net part v) where
  pub first_ended : k ≡ 0 → ValueEnded k total literal of net part v
  first_ended z = record { first = λ e. g; later = λ h. absurd (omega arith) }

  pub later_ended : 0 < k → {r : Extent} {net' : List ℕ} → GatePut Max total part v r net' → ValueEnded k total literal of net r net'
  later_ended some h = record { first = λ e. absurd (omega arith); later = λ l. record { part = part; between = v; least = g; greatest = h } }
