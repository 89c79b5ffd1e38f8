use lib.ListN.{length}
use Rattle.moves.proofs.MoveLaws.{flag, Growing}
use Rattle.moves.proofs.run_of.Given as goal

abbrev pub invariant-loop-k : goal.invariant-loop-k
invariant-loop-k g l = Growing l.fn.a l.fn.b (flag g.row.ALONG) (length l.yielded) l.run
