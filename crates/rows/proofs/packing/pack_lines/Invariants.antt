use Prim.Native.Nat.{◌+◌, ◌≤◌}
use Rattle.tables.specs.Line.{line_best}
use Rattle.tables.proofs.PartLaws.{Filled}
use Rattle.rows.proofs.packing.pack_lines.Given as goal

abbrev pub invariant-loop-o : goal.invariant-loop-o
invariant-loop-o l = (l.o ≤ l.lines.step) × Filled l.initial.w l.to (λ k. line_best l.lines.greatest l.initial.w (l.a + k) l.lines.step l.lines.card) l.o l.w
