-- `rows::blocks::runs` meets its contract.
use borrow.Author.Rules.{rules}
use Rattle.rows.proofs.BlockLaws.{runs_more, run-set, run-line}
use Rattle.rows.proofs.blocks.runs.Goals as goal

pub line_grade-grade-requires : goal.line_grade-grade-requires
line_grade-grade-requires c =
    let l = c.loop-b in
    run-line c.requires.0 c.loop-b-test.true c.requires.1 l.w l.invariant.1.len

pub loop-b-preserved : goal.loop-b-preserved
loop-b-preserved c =
    (search rules, runs_more c.requires.0 c.loop-b-test.true c.requires.1 c.loop-b.invariant.1 (run-set c.args.greatest c.line_grade-grade.ensures c.run_fill.ensures))
