-- `stage_blocks::first_table` meets its contract.
use Rattle.stage_blocks.proofs.BlockLaws.{first_above, first-limits, first-laid}
use Rattle.stage_blocks.proofs.first_table.Goals as goal

pub cell_count-n-requires : goal.cell_count-n-requires
cell_count-n-requires c = tt

pub greatest_above-requires : goal.greatest_above-requires
greatest_above-requires c = first_above c.requires

pub lay_limits-requires : goal.lay_limits-requires
lay_limits-requires c =
    let r = first-limits c.requires c.without-b.ensures c.greatest_above.ensures in
    (r.0, c.cell_count-n.ensures, r.1, r.2, r.3)

pub returns : goal.returns
returns c =
    let b = c.before in
    (first-laid b.requires c.without-b.ensures c.greatest_above.ensures b.args.gate c.lay_limits.ensures, c.cell_count-n.ensures)
