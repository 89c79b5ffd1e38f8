use Prim.Native.Nat.{◌≤◌}
use mathlib.Core.Path.{◌≡◌}
use Rattle.rules.specs.Cell.{step}
use Rattle.mask_making.specs.Making.{Space}
use Rattle.mask_making.proofs.MakeLaws.{Building}
use Rattle.mask_making.proofs.make.Given as goal

abbrev pub invariant-loop-i : goal.invariant-loop-i
invariant-loop-i l = (l.i ≤ 8) × (l.step ≡ step l.fn.ks l.i) × Space l.initial.w l.fn.ks l.n × Building l.initial.w l.fn.ks l.n l.i l.w
