-- `stage_steps::ends::join_if` meets its contract.
use Rattle.stage_steps.proofs.WantLaws.{wanted-on, wanted-off}
use Rattle.stage_steps.proofs.ends.join_if.Goals as goal

pub returns-then-want : goal.returns-then-want
returns-then-want c = wanted-on c.if-want.true c.joined.ensures

pub returns-else-want : goal.returns-else-want
returns-else-want c = wanted-off c.if-want.false
