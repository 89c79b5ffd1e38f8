use Prim.Native.Nat.{◌≤◌}
use Rattle.rows.specs.Grades.{source}
use Rattle.rows.proofs.RowLaws.{Extremes}
use Rattle.rows.proofs.blocks.fold_rows.Given as goal

abbrev pub invariant-loop-v : goal.invariant-loop-v
invariant-loop-v l = (1 ≤ l.v) × (l.v ≤ l.lines.card) × Extremes l.lines.greatest (source l.lent l.initial.w) l.from l.initial.w l.to l.lines.step l.v l.w
