use Prim.Native.Nat.{◌*◌, ◌≤◌}
use Rattle.tables.specs.Part.{part}
use Rattle.rows.specs.Grades.{source}
use Rattle.extremes.specs.Walk.{Swept}
use Rattle.extremes.proofs.+over_places.Given as goal

abbrev pub decreases-over_places : goal.decreases-over_places
decreases-over_places l = l.i

abbrev pub invariant-loop-b : goal.invariant-loop-b
invariant-loop-b l = (l.b ≤ l.count) × Swept l.greatest l.walk.places l.walk.set l.size l.n (part (source l.lent l.initial.w) l.from l.n) l.initial.w l.to (l.size * l.b) l.w
