-- `panel_joins::second` meets its contract.
use Rattle.panel_joins.proofs.JoinLaws.{second-joins, second-refuses}
use Rattle.panel_answers.proofs.ShapeLaws.{made}
use Rattle.shape.proofs.ShapeLaws.{makes_ok, makes_err}
use Rattle.panel_joins.proofs.second.Goals as goal

pub returns-in-Err : goal.returns-in-Err
returns-in-Err c =
    let a = c.args in
    second-refuses a.gate a.shape.now a.lower.now a.upper.now a.s a.t a.g.now a.out_lower.now a.out_upper.now c.of_refusal.result _ (makes_err c.from_bytes.ensures c.in-Err.is) c.of_refusal.ensures

pub returns-in-Ok : goal.returns-in-Ok
returns-in-Ok c =
    let a = c.args in
    second-joins a.gate a.shape.now a.lower.now a.upper.now a.s a.t a.g.now a.out_lower.now a.out_upper.now c.of_outcome.result _ _ _ _ (made a.shape.now (makes_ok c.from_bytes.ensures c.in-Ok.is)) c.join_second.ensures c.of_outcome.ensures
