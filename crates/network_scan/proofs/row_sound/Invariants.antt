use mathlib.Core.Path.{◌≡◌}
use mathlib.Core.Bool.{◌||◌}
use Prim.Native.Nat.{◌*◌, ◌≤◌}
use lib.Dec.{eqb}
use lib.ListN.{length}
use Rattle.rules.specs.Bytes.{at, all}
use Rattle.network_scan.proofs.row_sound.Given as goal

abbrev pub invariant-loop-entry : goal.invariant-loop-entry
invariant-loop-entry l = (l.sum ≤ 255 * length l.yielded) × (eqb l.sum 0 ≡ all (length l.yielded) (λ j. eqb (at l.fn.row j) 0 || eqb (at l.r j) 0))
