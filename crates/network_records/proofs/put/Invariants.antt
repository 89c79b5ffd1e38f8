use mathlib.Core.Path.{◌≡◌}
use Prim.Native.Nat.{◌*◌}
use Rattle.rules.specs.Bytes.{at}
use Rattle.tables.proofs.PartLaws.{Filled}
use Rattle.network_records.proofs.put.Given as goal

abbrev pub invariant-loop-j : goal.invariant-loop-j
invariant-loop-j l = (l.start ≡ 16 * l.r) × Filled l.initial.net l.start (at l.bytes) l.j l.net
