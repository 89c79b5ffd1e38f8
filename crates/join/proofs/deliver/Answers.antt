-- `join::deliver` meets its contract.
use Rattle.join.proofs.OpenLaws.{delivered}
use Rattle.join.proofs.deliver.Goals as goal

pub returns : goal.returns
returns c =
    delivered c.requires.0 c.unload.ensures c.unload-2.ensures
