-- `join_tables::first_limits` meets its contract.
use Rattle.join_tables.proofs.StepLaws.{first-exchange, first}
use Rattle.join_tables.proofs.first_limits.Goals as goal

pub exchange-requires : goal.exchange-requires
exchange-requires c = let r = c.requires in first-exchange c.args.gate r.0 r.1 c.args.t c.greatest_above.ensures r.2 r.3

pub returns : goal.returns
returns c = first c.args.gate c.requires.0 c.requires.1 c.args.t c.greatest_above.ensures c.exchange.ensures
