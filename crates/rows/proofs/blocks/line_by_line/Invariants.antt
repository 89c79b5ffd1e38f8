use Prim.Native.Nat.{◌≤◌}
use Rattle.rows.specs.Grades.{source}
use Rattle.rows.specs.Blocks.{BlockSet}
use Rattle.rows.proofs.blocks.line_by_line.Given as goal

abbrev pub invariant-loop-o : goal.invariant-loop-o
invariant-loop-o l = (l.o ≤ l.lines.step) × BlockSet l.lines.greatest (source l.lent l.initial.w) l.from l.initial.w l.to l.lines.step l.lines.card l.o l.w
