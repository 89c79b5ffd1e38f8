-- `weak_joins::restore` meets its contract.
use Rattle.weak_joins.proofs.RestoreLaws.{turnable_back, space-back, restored}
use Rattle.weak_joins.proofs.restore.Goals as goal

pub turn-requires : goal.turn-requires
turn-requires c = let p = c.requires in turnable_back p.0 p.1

pub make-requires : goal.make-requires
make-requires c = let p = c.requires in space-back p.0 c.turn.ensures p.1

pub returns : goal.returns
returns c = restored c.requires.0 c.turn.ensures c.make.ensures
