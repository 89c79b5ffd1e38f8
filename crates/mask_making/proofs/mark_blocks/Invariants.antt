use Prim.Native.Nat.{◌≤◌}
use Rattle.mask_making.specs.Marking.{BlocksMarked}
use Rattle.mask_making.proofs.mark_blocks.Given as goal

abbrev pub invariant-loop-b : goal.invariant-loop-b
invariant-loop-b l = (l.b ≤ l.count) × BlocksMarked l.initial.w l.n l.bit l.step l.b l.w
