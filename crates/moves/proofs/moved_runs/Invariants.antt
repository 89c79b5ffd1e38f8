use Prim.Native.Nat.{◌*◌, ◌≤◌}
use Rattle.moves.proofs.MoveLaws.{flag, Starts, Laying}
use Rattle.moves.proofs.moved_runs.Given as goal

abbrev pub invariant-loop-r : goal.invariant-loop-r
invariant-loop-r g l = (l.r ≤ l.count) × Starts l.a l.b l.run l.d l.r × Laying l.initial.w l.a l.b l.n l.low l.high l.to (flag g.row.BOTH) (l.len * l.r) (l.len * l.r) l.w
