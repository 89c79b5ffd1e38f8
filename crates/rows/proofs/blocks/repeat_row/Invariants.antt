use Prim.Native.Nat.{◌≤◌}
use Rattle.rows.specs.Blocks.{Repeated}
use Rattle.rows.proofs.blocks.repeat_row.Given as goal

abbrev pub invariant-loop-v : goal.invariant-loop-v
invariant-loop-v l = (1 ≤ l.v) × (l.v ≤ l.card) × Repeated l.initial.w l.a l.step l.card l.v l.w
