use Rattle.weak_joins.specs.Trying.{lacking}
use Rattle.weak_joins.proofs.TryLaws.{Passed}
use Rattle.weak_joins.proofs.first_lacking.Given as goal

abbrev pub invariant-loop-condition : goal.invariant-loop-condition
invariant-loop-condition l = Passed (lacking l.fn.ks l.by_max l.by_min) l.condition
