-- `stage_steps::ends::spread_if` meets its contract.
use Rattle.stage_steps.proofs.WantLaws.{wanted-on, wanted-off}
use Rattle.stage_steps.proofs.ends.spread_if.Goals as goal

pub returns-then-want : goal.returns-then-want
returns-then-want c = wanted-on c.if-want.true c.spread.ensures

pub returns-else-want : goal.returns-else-want
returns-else-want c = wanted-off c.if-want.false
