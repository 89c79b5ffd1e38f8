-- `network::evaluate` meets its contract.
use mathlib.Core.Path.{sym, ap, ◌∙◌}
use borrow.Author.Tests.{lt-ltb, le-ltb}
use lib.Dec.{leb→le, ltb}
use Rattle.rules.specs.declared.Refusal.TheVariants.{CellNumber}
use Rattle.rules.specs.Verdict.{accepted}
use Rattle.laws.proofs.TestLaws.{passes}
use Rattle.laws.proofs.VerdictLaws.{handed_on, row_pass, row_stop}
use Rattle.network.proofs.CallLaws.{room_test, judged-stops, judged-goes_on, judged-passed}
use Rattle.network.proofs.EvaluateLaws.{evaluate-stops, evaluate-answers}
use Rattle.network.proofs.evaluate.Goals as goal

pub returns-in_err-judge : goal.returns-in_err-judge
returns-in_err-judge c =
    let a = c.args in
    rw (handed_on c.from_residual.ensures.1) (evaluate-stops a.shape a.network.now a.cell a.work.now (sym (judged-stops a.shape a.network.now _ _ c.in_err-judge.ensures)))

pub returns-then-cells-cell : goal.returns-then-cells-cell
returns-then-cells-cell c =
    let a = c.args in
    evaluate-stops a.shape a.network.now a.cell a.work.now
    (sym (judged-goes_on a.shape a.network.now _ _ c.in_ok-judge.ensures ∙ row_stop CellNumber _ (ap (ltb a.cell) (sym c.cells.ensures) ∙ le-ltb _ _ c.if-cells-cell.true)))

pub grade_at-requires : goal.grade_at-requires
grade_at-requires c =
    let a = c.args in
    let passed = judged-passed a.shape a.network.now (room_test a.shape a.network.now a.work.now) c.in_ok-judge.ensures in
    record { shape-sound = passed.0; network-sound = passed.2; room = leb→le _ _ (passes passed.1) }

pub returns : goal.returns
returns c =
    let a = c.args in
    let found = c.grade_at.ensures in
    evaluate-answers a.shape a.network.now a.cell a.work.now
    (ap accepted found.right ∙ sym (judged-goes_on a.shape a.network.now _ _ c.in_ok-judge.ensures ∙ row_pass CellNumber _ (ap (ltb a.cell) (sym c.cells.ensures) ∙ lt-ltb _ _ c.if-cells-cell.false)))
    found.kept
