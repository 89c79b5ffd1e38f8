-- `stage_choice::settle_min` meets its contract.
use Rattle.stage_choice.proofs.SpaceLaws.{settled}
use Rattle.stage_choice.proofs.settle_min.Goals as goal

pub returns : goal.returns
returns c = settled c.requires c.copy.ensures c.copy-2.ensures c.copy-3.ensures
