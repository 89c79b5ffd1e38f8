use Rattle.places.proofs.PlaceLaws.{Taken}
use Rattle.places.proofs.sets.without.Given as goal

abbrev pub invariant-loop-i : goal.invariant-loop-i
invariant-loop-i l = Taken l.set l.initial.card-items l.i l.card-items
