use Prim.Native.Nat.{◌*◌}
use lib.ListN.{take}
use Rattle.rules.specs.Listing.{fields}
use Rattle.listing.specs.Putting.{Put}
use Rattle.listing.proofs.put_grades.Given as goal

abbrev pub invariant-loop-grade : goal.invariant-loop-grade
invariant-loop-grade l = Put l.initial.out l.start (fields (take l.grade-index l.grades)) (6 * l.grade-index) l.next l.out
