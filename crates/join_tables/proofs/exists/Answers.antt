-- `join_tables::exists` meets its contract.
use Rattle.join_tables.proofs.StepLaws.{existing}
use Rattle.join_tables.proofs.exists.Goals as goal

pub returns : goal.returns
returns c = existing c.within_either.result c.within_either.ensures
