use mathlib.Core.Path.{◌≡◌}
use Prim.Native.Nat.{◌-◌, ◌/◌}
use lib.ListN.{length}
use Rattle.rules.specs.Limits.{limits_of}
use Rattle.rules.specs.NetworkCalls.{check_from}
use Rattle.rules.specs.Bytes.{Past}
use Rattle.shape.specs.Shapes.{places_of}
use Rattle.network.proofs.first_outside.Given as goal

abbrev pub invariant-loop-cell : goal.invariant-loop-cell
invariant-loop-cell l = Past (length l.network / 16) l.initial.work l.work × (check_from (places_of l.shape) (limits_of l.fn.lower l.fn.upper) l.network 0 l.cells ≡ check_from (places_of l.shape) (limits_of l.fn.lower l.fn.upper) l.network (length l.yielded) (l.cells - length l.yielded))
