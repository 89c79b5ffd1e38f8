use mathlib.Core.Path.{◌≡◌}
use Prim.Native.Nat.{◌≤◌}
use Rattle.grouping.proofs.GrowLaws.{Grown}
use Rattle.rules.specs.Cell.{step}
use Rattle.grouping.proofs.growing.grow.Given as goal

abbrev pub invariant-loop-i : goal.invariant-loop-i
invariant-loop-i l = (l.i ≤ 8) × (l.step ≡ step l.fn.ks l.i) × Grown l.initial.w l.fn.ks l.low l.a l.b l.initial.grown.s l.initial.grown.t l.i l.grown.s l.grown.t l.w
