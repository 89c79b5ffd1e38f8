-- `rows::blocks::line_by_line` meets its contract.
use borrow.Author.Rules.{rules}
use Rattle.rows.proofs.BlockLaws.{block_more}
use Rattle.rows.proofs.blocks.line_by_line.Goals as goal

pub loop-o-preserved : goal.loop-o-preserved
loop-o-preserved c =
    (search rules, block_more c.requires.0 c.requires.1 c.loop-o-test.true c.loop-o.invariant.1 (λ v. c.line_grade-grade.ensures) c.line_fill.ensures)
