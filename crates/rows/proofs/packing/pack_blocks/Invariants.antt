use Prim.Native.Nat.{◌*◌, ◌≤◌}
use Rattle.tables.proofs.PartLaws.{Filled}
use Rattle.tables.proofs.PackLaws.{extreme}
use Rattle.rows.proofs.packing.pack_blocks.Given as goal

abbrev pub invariant-loop-b : goal.invariant-loop-b
invariant-loop-b l = (l.b ≤ l.count) × Filled l.initial.w l.to (extreme l.greatest l.initial.w l.a l.step l.card) (l.step * l.b) l.w
