use Rattle.shape.specs.Shapes.{places_of}
use Rattle.network_visits.proofs.VisitLaws.{VisitedTo}
use Rattle.network_visits.proofs.grade_each.Given as goal

abbrev pub invariant-loop-i : goal.invariant-loop-i
invariant-loop-i l = VisitedTo (places_of l.shape) l.network l.cells l.initial.grades l.initial.work l.i l.grades l.known l.work
