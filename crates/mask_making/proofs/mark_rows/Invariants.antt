use Prim.Native.Nat.{◌≤◌}
use Rattle.mask_making.specs.Marking.{RowsMarked}
use Rattle.mask_making.proofs.mark_rows.Given as goal

abbrev pub invariant-loop-o : goal.invariant-loop-o
invariant-loop-o l = (l.o ≤ l.step) × RowsMarked l.initial.w l.n l.bit l.a l.step l.o l.w
