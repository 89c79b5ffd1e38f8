-- `mask_making::mark_blocks` meets its contract.
use borrow.Author.Rules.{rules}
use Rattle.rows.proofs.BlockLaws.{run_end}
use Rattle.mask_making.proofs.PairLaws.{blocks_more}
use Rattle.mask_making.proofs.mark_blocks.Goals as goal

pub loop-b-preserved : goal.loop-b-preserved
loop-b-preserved c = (search rules, blocks_more c.loop-b.invariant.1 (run_end c.requires.0 c.loop-b-test.true) c.mark_rows.ensures)
