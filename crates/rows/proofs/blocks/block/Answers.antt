-- `rows::blocks::block` meets its contract.
use Rattle.rows.proofs.RowLaws.{rows-set}
use Rattle.rows.proofs.blocks.block.Goals as goal

pub returns : goal.returns
returns c = rows-set c.args.lines.greatest c.requires.0 c.first_row.ensures c.repeat_row.ensures
