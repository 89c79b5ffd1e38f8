-- A grade that obeys what was written for a spreadsheet's file obeys its sets.
use Prim.Native.Nat.{ℕ, ◌+◌, ◌/◌, ◌≤◌, ◌<◌}
use mathlib.Core.Path.{◌≡◌, refl, sym, ◌∙◌, ap, ap₂, subst}
use mathlib.Core.List.{List, [], ◌++◌, append-nil}
use native.Mathlib.Omega.{arith}
use lib.Dec.{T, leb, le→leb}
use lib.ListN.{length, take}
use Rattle.rules.specs.declared.Edition.TheVariants.{Ours, Spreadsheet}
use Rattle.rules.specs.declared.Refusal.TheVariants.{ShortBuffer}
use Rattle.rules.specs.Bytes.{at, record_at}
use Rattle.rules.specs.Cell.{cells}
use Rattle.rules.specs.Shape.{places}
use Rattle.rules.specs.Limits.{limits_of}
use Rattle.rules.specs.Verdict.{accepted, unless}
use Rattle.rules.specs.TableFile.{Seen, listed_cell, judge_file, file_limits, Lists, AsListed}
use Rattle.rules.specs.Editions.{file_as_other, convert_call, Converted}
use Rattle.laws.proofs.TestLaws.{and_i, by_equal}
use Rattle.laws.proofs.VerdictLaws.{then_passed}
use Rattle.editions.proofs.EditionLaws.{number_same}
use Rattle.table_file.proofs.FileLaws.{accepted_file}
use Rattle.table_file.proofs.AsListedLaws.{as_listed}
use Rattle.panel_answers.proofs.ShapeLaws.{called}
use Rattle.whole_path.specs.WholePath.{Obeys}
use Rattle.whole_path.specs.FromSpreadsheet.{ListsSet, ObeysSets, FromSpreadsheet}

module _ (sets file : List ℕ) (c : Converted Spreadsheet sets file) (table : Seen) (q : judge_file Ours file ≡ accepted table) where
  abbrev ks : List ℕ
  ks = places table.cards

  same-cell : (k : ℕ) → k < length sets / 16 → listed_cell ks (record_at file k) ≡ listed_cell ks (record_at sets k)
  same-cell k h = number_same ks _ _ (λ i. c.values k (8 + i) h (omega arith))

  same_count : length file / 16 ≡ length sets / 16
  same_count = ap (λ (n : ℕ). n / 16) c.as_long

  -- a record lists the same cell in both
  lists_ours : (k cell : ℕ) → ListsSet sets ks k cell → Lists file ks k cell
  lists_ours k cell h = (subst (λ (n : ℕ). k < n) (sym same_count) h.0, c.cell_stays k h.0 h.1, same-cell k h.0 ∙ h.2)

  lists_sets : (k cell : ℕ) → Lists file ks k cell → ListsSet sets ks k cell
  lists_sets k cell h =
      let here : k < length sets / 16 = subst (λ (n : ℕ). k < n) same_count h.0 in
      by_equal (at (record_at sets k) 0) 4 (λ y. (here, y, sym (same-cell k here) ∙ h.2))
      (λ n. absurd (((accepted_file Spreadsheet sets table (sym c.accepts ∙ q)).cells k here).known (sym (ap (λ (r : List ℕ). at r 0) (c.others k here n)) ∙ h.1)))

  -- the limits of a listed cell, as the file has them
  limits-listed : AsListed file table (file_limits file table)
  limits-listed =
      subst (AsListed file table) (limits-same)
      (as_listed file table (accepted_file Ours file table q) [] [])
    where
      limits-same : limits_of ((file_limits file table).lower ++ []) ((file_limits file table).upper ++ []) ≡ file_limits file table
      limits-same = ap₂ limits_of (append-nil (file_limits file table).lower) (append-nil (file_limits file table).upper)

  obeys-sets : (cell grade : ℕ) → cell < cells ks → Obeys file table cell grade → ObeysSets sets table cell grade
  obeys-sets cell grade h o =
      record {
        member = λ k l.
            let r : List ℕ = record_at file k in
            let is = limits-listed.listed k cell (lists_ours k cell l) in
            let low : at r 1 ≤ grade = omega (arith, o.within.0, is.0) in
            let high : grade ≤ at r 2 = omega (arith, o.within.1, is.1) in
            subst T (c.grades k grade l.0 l.1) (and_i (leb (at r 1) grade) (leb grade (at r 2)) (le→leb (at r 1) grade low) (le→leb grade (at r 2) high));
        unforeseen = λ none. omega (arith, o.unforeseen (λ k l. none k (lists_sets k cell l)));
      }

pub from_spreadsheet : FromSpreadsheet
from_spreadsheet sets out out' turned =
    let c = turned.converted refl in
    let v = called (convert_call Spreadsheet sets (length out)) (λ (f : List ℕ). 0) (subst (λ (n : ℕ). n < 65536) turned.answer (omega arith)) in
    let p = then_passed (judge_file Spreadsheet sets) (λ s. unless (leb (length sets) (length out)) ShortBuffer (accepted (file_as_other Spreadsheet sets))) v.1 in
    record {
      table = p.0;
      holds = c.accepts ∙ p.1;
      exported = p.1;
      obeys = obeys-sets sets (take (length sets) out') c p.0 (c.accepts ∙ p.1);
    }
