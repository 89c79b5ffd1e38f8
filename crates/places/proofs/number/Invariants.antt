use mathlib.Core.Path.{◌≡◌}
use Prim.Native.Nat.{◌+◌}
use lib.ListN.{take, length}
use Rattle.rules.specs.Bytes.{at}
use Rattle.rules.specs.Cell.{step, number}
use Rattle.places.proofs.number.Given as goal

abbrev pub invariant-loop-card : goal.invariant-loop-card
invariant-loop-card l = (l.cell ≡ number (take (length l.yielded) l.fn.ks) (λ j. at l.bytes (l.from + j))) × (l.step ≡ step l.fn.ks (length l.yielded))
