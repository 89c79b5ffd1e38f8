-- `panel_networks::evaluate` meets its contract.
use Rattle.panel_answers.proofs.ShapeLaws.{made}
use Rattle.panel_networks.proofs.EvaluateLaws.{evaluates, refuses}
use Rattle.shape.proofs.ShapeLaws.{makes_ok, makes_err}
use Rattle.panel_networks.proofs.evaluate.Goals as goal

pub returns-in-Ok : goal.returns-in-Ok
returns-in-Ok c =
    let a = c.args in
    evaluates a.network.now a.shape.now a.cell a.work.now _ _ _ _ (made a.shape.now (makes_ok c.from_bytes.ensures c.in-Ok.is)) c.evaluate.ensures c.of_evaluation.ensures

pub returns-in-Err : goal.returns-in-Err
returns-in-Err c =
    let a = c.args in
    refuses a.network.now a.shape.now a.cell a.work.now _ _ (makes_err c.from_bytes.ensures c.in-Err.is) c.of_evaluation-in-Err.ensures
