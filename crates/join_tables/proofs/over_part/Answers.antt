-- `join_tables::over_part` meets its contract.
use Rattle.join_tables.proofs.TurnLaws.{over-part}
use Rattle.join_tables.proofs.over_part.Goals as goal

pub returns : goal.returns
returns c = let a = c.args in over-part c.requires.0 c.requires.1 a.to a.w.now c.requires.2 a.greatest a.set c.over_set.ensures
