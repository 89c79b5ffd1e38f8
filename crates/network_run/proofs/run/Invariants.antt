use Rattle.network_run.proofs.WorkLaws.{RunTo}
use Rattle.network_run.proofs.run.Given as goal

abbrev pub invariant-loop-k : goal.invariant-loop-k
invariant-loop-k l = RunTo l.values l.network l.initial.work l.k l.work
