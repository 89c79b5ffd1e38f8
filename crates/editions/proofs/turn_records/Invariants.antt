use Prim.Native.Nat.{◌*◌}
use mathlib.Core.Path.{◌≡◌}
use mathlib.Core.List.{◌++◌}
use lib.ListN.{drop}
use Rattle.rules.specs.Bytes.{map_records}
use Rattle.rules.specs.Editions.{record_as_other}
use Rattle.editions.proofs.turn_records.Given as goal

abbrev pub invariant-loop-k : goal.invariant-loop-k
invariant-loop-k l = l.out ≡ map_records (record_as_other l.edition) l.initial.out 0 l.k ++ drop (16 * l.k) l.initial.out
