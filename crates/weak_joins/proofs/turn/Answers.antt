-- `weak_joins::turn` meets its contract.
use Rattle.weak_joins.proofs.OpenLaws.{turn-first, turn-second, turns_max, turns_min}
use Rattle.weak_joins.proofs.turn.Goals as goal

pub complement-requires : goal.complement-requires
complement-requires c = turn-first c.requires

pub complement-requires-in-Min : goal.complement-requires-in-Min
complement-requires-in-Min c = turn-second c.requires c.complement.ensures

pub returns-in-Max : goal.returns-in-Max
returns-in-Max c = rw c.in-Max.is (turns_max c.requires c.copy.ensures)

pub returns-in-Min : goal.returns-in-Min
returns-in-Min c = rw c.in-Min.is (turns_min c.requires c.complement.ensures c.complement-in-Min.ensures)
