-- `join_tables::exchange_block` meets its contract.
use Rattle.join_tables.proofs.TurnLaws.{below-part}
use Rattle.join_tables.proofs.exchange_block.Goals as goal

pub complement-requires : goal.complement-requires
complement-requires c = (c.requires.1, below-part c.requires.2)
