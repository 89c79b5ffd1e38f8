-- `mask_making::mark_rows` meets its contract.
use borrow.Author.Rules.{rules}
use Rattle.mask_making.proofs.PairLaws.{rows_more}
use Rattle.mask_making.proofs.mark_rows.Goals as goal

pub loop-o-preserved : goal.loop-o-preserved
loop-o-preserved c = (search rules, rows_more c.loop-o.invariant.1 c.loop-o-test.true c.requires.0 c.mark_two.ensures)
