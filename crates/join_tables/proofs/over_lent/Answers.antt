-- `join_tables::over_lent` meets its contract.
use Rattle.join_tables.proofs.TurnLaws.{over-lent}
use Rattle.join_tables.proofs.over_lent.Goals as goal

pub returns : goal.returns
returns c = let a = c.args in over-lent c.requires.0 c.requires.1 a.to a.w.now c.requires.3 a.greatest a.set a.table.now c.requires.2 c.over_set.ensures
