use Rattle.rules.specs.Network.{record_sound}
use Rattle.network_scan.proofs.MarkLaws.{Marked}
use Rattle.network_scan.proofs.scan.Given as goal

abbrev pub invariant-loop-k : goal.invariant-loop-k
invariant-loop-k l = Marked (record_sound l.ks l.m l.network) l.marks l.k
