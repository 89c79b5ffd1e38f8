-- `grouping::group` meets its contract.
use Rattle.grouping.proofs.GroupedLaws.{grouped}
use Rattle.grouping.proofs.group.Goals as goal

pub returns : goal.returns
returns c = let p = c.requires in grouped p.2 p.1 c.start_sets.ensures c.singleton.ensures c.singleton-2.ensures c.grow.ensures
