-- `stage_blocks::lay` meets its contract.
use Rattle.stage_blocks.proofs.BlockLaws.{lay_both, both-laid}
use Rattle.stage_blocks.proofs.lay.Goals as goal

pub moved_both-requires : goal.moved_both-requires
moved_both-requires c = let p = c.requires in lay_both p.0 p.2 p.3 p.1

pub returns : goal.returns
returns c = let b = c.before in both-laid b.requires.0 b.args.low b.args.high c.moved_both.ensures
