use Prim.Native.Nat.{◌*◌, ◌≤◌}
use Rattle.rules.specs.Bytes.{at}
use Rattle.tables.specs.Part.{part}
use Rattle.tables.specs.Line.{along_lines}
use Rattle.tables.proofs.PartLaws.{Filled}
use Rattle.rows.specs.Grades.{source}
use Rattle.rows.proofs.blocks.along.Given as goal

abbrev pub invariant-loop-b : goal.invariant-loop-b
invariant-loop-b l = (l.b ≤ l.count) × Filled l.initial.w l.to (at (along_lines l.greatest (part (source l.lent l.initial.w) l.from l.n) l.step l.card l.count)) (l.step * l.card * l.b) l.w
