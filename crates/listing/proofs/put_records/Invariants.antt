use Prim.Native.Nat.{◌*◌}
use Rattle.rules.specs.Network.{records_from}
use Rattle.rules.specs.Listing.{lines_from}
use Rattle.shape.specs.Shapes.{places_of}
use Rattle.listing.specs.Putting.{Put}
use Rattle.listing.proofs.put_records.Given as goal

abbrev pub invariant-loop-r : goal.invariant-loop-r
invariant-loop-r l = Put l.initial.out 0 (lines_from 0 (records_from (places_of l.shape) l.network 0 l.r)) (62 * l.r) l.next l.out
