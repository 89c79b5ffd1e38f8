-- `rows::blocks::fold_rows` meets its contract.
use borrow.Author.Rules.{rules}
use Rattle.rows.proofs.RowLaws.{extremes_one, extremes_more}
use Rattle.rows.proofs.blocks.fold_rows.Goals as goal

pub loop-v-init : goal.loop-v-init
loop-v-init c = (search rules, c.requires.0, extremes_one c.args.lines.greatest c.requires.3)

pub loop-v-preserved : goal.loop-v-preserved
loop-v-preserved c =
    let l = c.loop-v in
    (search rules, search rules, extremes_more c.requires.2 l.invariant.0 c.loop-v-test.true c.requires.1 c.args.lines.greatest l.invariant.2 c.fold_row.ensures)
