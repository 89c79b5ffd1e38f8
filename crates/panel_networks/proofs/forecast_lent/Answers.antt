-- `panel_networks::forecast_lent` meets its contract.
use Prim.Native.Nat.{◌≤◌, ◌<◌}
use mathlib.Core.Path.{refl, ap}
use native.Mathlib.Omega.{arith}
use Rattle.rules.specs.Settings.{settings_of}
use Rattle.shape.proofs.ShapeLaws.{makes_ok, makes_err}
use Rattle.laws.proofs.VerdictLaws.{handed_on, ok_same}
use Rattle.compile.proofs.ForecastLaws.{forecasts_as}
use Rattle.panel_answers.specs.Answers.{compile_number}
use Rattle.panel_answers.proofs.ShapeLaws.{Made, made}
use Rattle.panel_networks.proofs.ForecastLaws.{forecast_refuses, short-refuses, told_refuses, few, tells}
use Rattle.panel_networks.proofs.forecast_lent.Goals.{In_ok-shape, In_ok-told}
use Rattle.panel_networks.proofs.forecast_lent.Goals as goal

-- the shape that is accepted
shaped : (c : In_ok-shape) → Made c.args.shape.now c.in_ok-shape.shape
shaped c = made c.args.shape.now (makes_ok c.from_bytes.ensures c.in_ok-shape.was)

-- the figures are few
figures-few : (c : In_ok-told) → (c.in_ok-told.told.records ≤ 3067) × (c.in_ok-told.told.depth < c.in_ok-told.told.records)
figures-few c =
    let a = c.args in
    few (settings_of a.settings) a.shape.now a.lower.now a.upper.now a.work.now a.depth.now 0 (made a.shape.now (makes_ok c.from_bytes.ensures c.in_ok-shape.was)) c.if-depth-lt-WORD.false (forecasts_as c.of_byte-how.ensures c.forecast_with.ensures) c.in_ok-told.told c.in_ok-told.was

pub returns-in_err-shape-clause-foretold : goal.returns-in_err-shape-clause-foretold
returns-in_err-shape-clause-foretold c =
    let a = c.args in
    forecast_refuses (settings_of a.settings) a.shape.now a.lower.now a.upper.now a.work.now a.depth.now _ _ (makes_err c.from_bytes.ensures c.in_err-shape.was) (ap compile_number (handed_on c.from_residual.ensures.1))

pub returns-then-depth-lt-WORD-clause-foretold : goal.returns-then-depth-lt-WORD-clause-foretold
returns-then-depth-lt-WORD-clause-foretold c =
    let a = c.args in
    short-refuses (settings_of a.settings) a.shape.now a.lower.now a.upper.now a.work.now a.depth.now _ (shaped (goal.at.returns-then-depth-lt-WORD-clause-foretold c).In_ok-shape) c.if-depth-lt-WORD.true refl

pub returns-in_err-told-clause-foretold : goal.returns-in_err-told-clause-foretold
returns-in_err-told-clause-foretold c =
    let a = c.args in
    told_refuses (settings_of a.settings) a.shape.now a.lower.now a.upper.now a.work.now a.depth.now _ (shaped (goal.at.returns-in_err-told-clause-foretold c).In_ok-shape) c.if-depth-lt-WORD.false
    (forecasts_as c.of_byte-how.ensures c.forecast_with.ensures) _ c.in_err-told.was (ap compile_number (handed_on c.from_residual-in_err-told.ensures.1))

pub put_word-requires : goal.put_word-requires
put_word-requires c =
    let f = figures-few (goal.at.put_word-requires c).In_ok-told in
    (omega (arith, f.0, f.1), c.if-depth-lt-WORD.false)

pub returns-clause-few : goal.returns-clause-few
returns-clause-few c = λ n e. omega (arith, ok_same e, (figures-few (goal.at.returns-clause-few c).In_ok-told).0)

pub returns-clause-foretold : goal.returns-clause-foretold
returns-clause-foretold c =
    let a = c.args in
    tells (settings_of a.settings) a.shape.now a.lower.now a.upper.now a.work.now a.depth.now _ (shaped (goal.at.returns-clause-foretold c).In_ok-shape) c.if-depth-lt-WORD.false
    (forecasts_as c.of_byte-how.ensures c.forecast_with.ensures) c.in_ok-told.told c.in_ok-told.was c.put_word.ensures refl
