-- `weak_joins::open` meets its contract.
use Rattle.weak_joins.proofs.OpenLaws.{turnable_front}
use Rattle.weak_joins.proofs.open.Goals as goal

pub turn-requires : goal.turn-requires
turn-requires c = let p = c.requires in turnable_front p.0 p.1
