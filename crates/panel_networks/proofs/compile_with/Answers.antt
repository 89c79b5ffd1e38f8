-- `panel_networks::compile_with` meets its contract.
use Rattle.panel_networks.proofs.CompileLaws.{compiles, compile_refuses, few}
use Rattle.compile.proofs.RowLaws.{compiles_as}
use Rattle.panel_answers.proofs.ShapeLaws.{made}
use Rattle.rules.specs.Settings.{settings_of}
use Rattle.shape.proofs.ShapeLaws.{makes_ok, makes_err}
use Rattle.panel_networks.proofs.compile_with.Goals as goal

pub of_compile-requires : goal.of_compile-requires
of_compile-requires c = few c.compile_with.ensures

pub returns-in-Err : goal.returns-in-Err
returns-in-Err c =
    let a = c.args in
    compile_refuses (settings_of a.settings) a.shape.now a.lower.now a.upper.now a.work.now a.network.now c.of_refusal.result _ (makes_err c.from_bytes.ensures c.in-Err.is) c.of_refusal.ensures

pub returns-in-Ok : goal.returns-in-Ok
returns-in-Ok c =
    let a = c.args in
    compiles (settings_of a.settings) a.shape.now a.lower.now a.upper.now a.work.now a.network.now c.of_compile.result _ _ _ _
    (made a.shape.now (makes_ok c.from_bytes.ensures c.in-Ok.is))
    (compiles_as c.of_byte.ensures c.compile_with.ensures) c.of_compile.ensures
