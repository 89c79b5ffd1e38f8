-- `compile::build` meets its contract.
use Rattle.rules.specs.Settings.{settings_of}
use Rattle.compile.proofs.FirstLaws.{starts_by, recorded_by}
use Rattle.compile.proofs.build.Goals as goal

pub stage-requires : goal.stage-requires
stage-requires c =
    let a = c.args in
    starts_by (settings_of a.how) a.shape a.lower.now a.upper.now a.work.now c.requires c.cells-cells.result c.cells-cells.ensures c.load.ensures c.load-2.ensures c.places.result c.places.ensures

pub returns : goal.returns
returns c =
    let a = c.args in
    recorded_by (settings_of a.how) a.shape a.lower.now a.upper.now a.work.now c.requires c.cells-cells.result c.cells-cells.ensures c.load.ensures c.load-2.ensures c.places.result c.places.ensures
    c.stage.ensures
