use Prim.Native.Nat.{◌+◌, ◌*◌}
use lib.ListN.{length}
use Rattle.laws.proofs.MoveLaws.{Turns}
use Rattle.moves.specs.Move.{remap_from}
use Rattle.moves.proofs.next.Given as goal

abbrev pub invariant-loop-k : goal.invariant-loop-k
invariant-loop-k l = Turns l.fn.b l.fn.a (l.fn.run.first * remap_from l.fn.run.places l.fn.b l.fn.a (l.fn.r + 1)) (l.fn.run.places + length l.yielded) l.rest l.at l.step
