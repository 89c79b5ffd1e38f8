-- `stage_blocks::joined` meets its contract.
use Rattle.stage_blocks.proofs.BlockLaws.{joined-moved, joined-combine, joined-laid}
use Rattle.stage_blocks.proofs.joined.Goals as goal

pub moved-requires : goal.moved-requires
moved-requires c = joined-moved c.requires

pub combine-requires : goal.combine-requires
combine-requires c = joined-combine c.requires c.moved.ensures

pub returns : goal.returns
returns c = let b = c.before in joined-laid b.requires c.moved.ensures b.args.gate c.combine.ensures
