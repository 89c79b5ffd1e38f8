-- `table_file::read_table` meets its contract.
use Rattle.std.proofs.Common.{ℕ, ◌-◌, ◌≤◌, List, ◌++◌, length, drop, sym, ◌∙◌, ap, arith}
use borrow.Author.Tests.{le-leb}
use Rattle.rules.specs.declared.Edition.TheVariants.{Ours}
use Rattle.rules.specs.Cell.{cells}
use Rattle.laws.proofs.TestLaws.{and_both}
use Rattle.shape.specs.Shapes.{places_of}
use Rattle.shape.proofs.ShapeLaws.{shape-positive, from_cards}
use Rattle.table_file.proofs.FileLaws.{accepted_file}
use Rattle.table_file.proofs.AsListedLaws.{limit}
use Rattle.table_file.proofs.ReadLaws.{read_table}
use Rattle.table_file.proofs.read_table.Goals as goal

-- a limit buffer written over the places ks
abbrev laid-limits : List ℕ → List ℕ → ℕ → ℕ → List ℕ → List ℕ
laid-limits file ks j x to = limit file ks j x ++ drop (cells ks) to

pub overflow_sub-top : goal.overflow_sub-top
overflow_sub-top c =
    let f = accepted_file Ours c.args.file.now _ (sym c.in_ok-shape.ensures.answer) in
    omega (arith, (f.kept.grades f.grades).0)

pub write_limits-requires-clause-room : goal.write_limits-requires-clause-room
write_limits-requires-clause-room c =
    let f = accepted_file Ours c.args.file.now _ (sym c.in_ok-shape.ensures.answer) in
    let n = c.cells-cells.ensures in
    rw c.places.ensures (record {
      some = shape-positive c.in_ok-shape.field-0.shape;
      few = f.kept.few;
      low = omega (arith, n);
      high = omega (arith, n);
    })

pub write_limits-requires-clause-below : goal.write_limits-requires-clause-below
write_limits-requires-clause-below c =
    let f = accepted_file Ours c.args.file.now _ (sym c.in_ok-shape.ensures.answer) in
    rw c.places.ensures f.listed

pub returns : goal.returns
returns c =
    let a = c.args in
    let s = c.in_ok-shape.field-0.shape in
    let n = c.cells-cells.ensures in
    let low : cells (places_of s) ≤ length a.lower.now = omega (arith, n) in
    let high : cells (places_of s) ≤ length a.upper.now = omega (arith, n) in
    let ks = c.places.ensures in
    let w = c.write_limits.ensures in
    read_table a.file.now a.lower.now a.upper.now _ (sym c.in_ok-shape.ensures.answer) (and_both (le-leb _ _ low) (le-leb _ _ high))
    s (sym (from_cards s)) _ _
    (w.lower ∙ ap (λ (l : List ℕ). laid-limits a.file.now l 1 1 a.lower.now) ks)
    (w.upper ∙ ap (λ (l : List ℕ). laid-limits a.file.now l 2 (s.m - 1) a.upper.now) ks)
