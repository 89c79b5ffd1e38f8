use Prim.Native.Nat.{◌≤◌}
use Rattle.tables.proofs.PartLaws.{Filled}
use Rattle.mask_making.specs.Marking.{marked}
use Rattle.mask_making.proofs.mark.Given as goal

abbrev pub invariant-loop-x : goal.invariant-loop-x
invariant-loop-x l = (l.x ≤ l.n) × Filled l.initial.w l.to (marked l.initial.w l.low l.high l.to l.bit) l.x l.w
