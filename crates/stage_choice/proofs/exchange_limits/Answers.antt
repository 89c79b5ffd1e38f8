-- `stage_choice::exchange_limits` meets its contract.
use Rattle.stage_choice.proofs.SpaceLaws.{exchanged}
use Rattle.stage_choice.proofs.exchange_limits.Goals as goal

pub returns : goal.returns
returns c = exchanged c.requires c.exchange_block.ensures c.exchange_block-2.ensures
