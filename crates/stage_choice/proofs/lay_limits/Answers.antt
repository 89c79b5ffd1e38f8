-- `stage_choice::lay_limits` meets its contract.
use Rattle.stage_choice.proofs.ChoiceLaws.{exchangeable}
use Rattle.stage_choice.proofs.lay_limits.Goals as goal

pub exchange_limits-requires : goal.exchange_limits-requires
exchange_limits-requires c = let p = c.requires in exchangeable p.0 p.1
