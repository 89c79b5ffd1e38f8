-- `panel_networks::evaluate_each` meets its contract.
use Rattle.panel_networks.proofs.EachLaws.{evaluates_each, each-refuses}
use Rattle.panel_answers.proofs.ShapeLaws.{made}
use Rattle.shape.proofs.ShapeLaws.{makes_ok, makes_err}
use Rattle.panel_networks.proofs.evaluate_each.Goals as goal

pub returns-in-Err : goal.returns-in-Err
returns-in-Err c =
    let a = c.args in
    each-refuses a.network.now a.shape.now a.cells.now a.grades.now a.work.now _ c.of_refusal.result (makes_err c.from_bytes.ensures c.in-Err.is) c.of_refusal.ensures

pub returns-in-Ok : goal.returns-in-Ok
returns-in-Ok c =
    let a = c.args in
    evaluates_each a.network.now a.shape.now a.cells.now a.grades.now a.work.now _ _ c.of_outcome.result _ _ (made a.shape.now (makes_ok c.from_bytes.ensures c.in-Ok.is)) c.evaluate_each.ensures c.of_outcome.ensures
