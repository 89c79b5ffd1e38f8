-- `network_visits::visit` meets its contract.
use Prim.Native.Nat.{◌<◌}
use native.Mathlib.Omega.{arith}
use Rattle.rules.specs.Cell.{cells}
use Rattle.laws.proofs.ByteLaws.{past_same}
use Rattle.shape.specs.Shapes.{places_of}
use Rattle.shape.proofs.ShapeLaws.{sound-shape}
use Rattle.network_visits.proofs.VisitLaws.{no_cell, at-cell, known_right, known_more}
use Rattle.network_visits.proofs.visit.Goals.{Else-cells-cell}
use Rattle.network_visits.proofs.visit.Goals as goal

pub returns-then-cells-cell : goal.returns-then-cells-cell
returns-then-cells-cell c =
    let a = c.args in
    record {
      right = no_cell (places_of a.shape.now) a.network.now a.cell (omega (arith, c.requires.counted, c.if-cells-cell.true));
      knows = c.requires.knows;
      kept = past_same;
    }

-- the number is a cell's
here : (c : Else-cells-cell) → c.args.cell < cells (places_of c.args.shape.now)
here c = omega (arith, c.requires.counted, c.if-cells-cell.false)

low : (c : Else-cells-cell) → c.args.cell < 1024
low c =
    omega (arith, here c, (sound-shape c.args.shape.now c.requires.ready.shape-sound).cells-few)

pub bounds-known-cell : goal.bounds-known-cell
bounds-known-cell c = low (goal.at.bounds-known-cell c).Else-cells-cell

pub returns-then-before : goal.returns-then-before
returns-then-before c =
    let a = c.args in
    record {
      right = known_right (places_of a.shape.now) a.network.now c.requires.knows a.cell (here (goal.at.returns-then-before c).Else-cells-cell) c.if-before.true;
      knows = c.requires.knows;
      kept = past_same;
    }

pub returns : goal.returns
returns c =
    let a = c.args in
    let found = c.grade_at-grade.ensures in
    record {
      right = at-cell (places_of a.shape.now) a.network.now a.cell _ (here (goal.at.returns c).Else-cells-cell) found.right;
      knows = known_more (places_of a.shape.now) a.network.now c.requires.knows a.cell _ (low (goal.at.returns c).Else-cells-cell) found.right;
      kept = found.kept;
    }
