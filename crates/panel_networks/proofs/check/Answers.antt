-- `panel_networks::check` meets its contract.
use Rattle.panel_networks.proofs.CheckLaws.{checks, check_refuses, few}
use Rattle.panel_answers.proofs.ShapeLaws.{made}
use Rattle.shape.proofs.ShapeLaws.{makes_ok, makes_err}
use Rattle.panel_networks.proofs.check.Goals as goal

pub of_check-requires : goal.of_check-requires
of_check-requires c = few c.check.ensures

pub returns-in-Err : goal.returns-in-Err
returns-in-Err c =
    let a = c.args in
    check_refuses a.network.now a.shape.now a.lower.now a.upper.now a.work.now c.of_refusal.result _ (makes_err c.from_bytes.ensures c.in-Err.is) c.of_refusal.ensures

pub returns-in-Ok : goal.returns-in-Ok
returns-in-Ok c =
    let a = c.args in
    checks a.network.now a.shape.now a.lower.now a.upper.now a.work.now c.of_check.result _ _ _ (made a.shape.now (makes_ok c.from_bytes.ensures c.in-Ok.is)) c.check.ensures c.of_check.ensures
