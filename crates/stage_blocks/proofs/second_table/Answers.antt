-- `stage_blocks::second_table` meets its contract.
use mathlib.Core.Path.{refl}
use Rattle.stage_blocks.proofs.BlockLaws.{second-moved, second-exchange, second_above, second-limits, second-laid}
use Rattle.stage_blocks.proofs.second_table.Goals as goal

pub cell_count-n-requires : goal.cell_count-n-requires
cell_count-n-requires c = tt

pub moved-requires : goal.moved-requires
moved-requires c = second-moved c.requires

pub exchange_block-requires : goal.exchange_block-requires
exchange_block-requires c = second-exchange c.requires c.moved.ensures

pub greatest_above-requires : goal.greatest_above-requires
greatest_above-requires c = second_above c.requires c.moved.ensures c.exchange_block.ensures

pub lay_limits-requires : goal.lay_limits-requires
lay_limits-requires c =
    let r = second-limits c.requires c.moved.ensures c.exchange_block.ensures c.without-b.ensures c.greatest_above.ensures in
    (r.0, c.cell_count-n.ensures, r.1, r.2, r.3)

pub returns : goal.returns
returns c =
    let b = c.before in (
      second-laid b.requires c.moved.ensures c.exchange_block.ensures c.without-b.ensures c.greatest_above.ensures b.args.gate refl c.lay_limits.ensures,
      c.cell_count-n.ensures,
    )
