use Prim.Native.Nat.{◌≤◌}
use Rattle.stage_drops.proofs.DropLaws.{Going}
use Rattle.stage_drops.proofs.drop_all.Given as goal

abbrev pub invariant-loop-i : goal.invariant-loop-i
invariant-loop-i l = (l.i ≤ 8) × Going l.initial.left l.initial.w l.i l.i l.left l.n l.step l.w
