use Rattle.network_run.proofs.ValueLaws.{ValuesTo}
use Rattle.network_run.proofs.values_at.Given as goal

abbrev pub invariant-loop-place : goal.invariant-loop-place
invariant-loop-place l = ValuesTo l.fn.ks l.cell l.place-items l.rest l.place-index
