-- `join_tables::second_limits` meets its contract.
use Rattle.join_tables.proofs.StepLaws.{second-exchange, second}
use Rattle.join_tables.proofs.second_limits.Goals as goal

pub exchange-requires : goal.exchange-requires
exchange-requires c = let r = c.requires in second-exchange c.args.gate r.0 r.1 c.exchange_block.ensures c.args.s c.greatest_above.ensures r.3 r.4

pub returns : goal.returns
returns c = second c.args.gate c.requires.0 c.requires.1 c.exchange_block.ensures c.args.s c.greatest_above.ensures c.exchange.ensures
