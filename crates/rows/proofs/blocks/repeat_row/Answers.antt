-- `rows::blocks::repeat_row` meets its contract.
use borrow.Author.Rules.{rules}
use Rattle.rows.proofs.RowLaws.{first-to-row, repeated_more}
use Rattle.rows.proofs.blocks.repeat_row.Goals as goal

pub copy-requires : goal.copy-requires
copy-requires c = first-to-row c.requires c.loop-v.invariant.0 c.loop-v-test.true c.loop-v.invariant.2.len

pub loop-v-preserved : goal.loop-v-preserved
loop-v-preserved c =
    let l = c.loop-v in
    (search rules, search rules, repeated_more c.requires l.invariant.0 c.loop-v-test.true l.invariant.2 c.copy.ensures)
