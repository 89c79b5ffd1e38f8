-- `stage_steps::values::keep_value` meets its contract.
use Rattle.stage_steps.proofs.ValueLaws.{keep_below, keep_room, keep_rows, keep_single, keep_given}
use Rattle.stage_steps.proofs.WantLaws.{wanted-on, wanted-off}
use Rattle.stage_steps.proofs.values.keep_value.Goals as goal

pub uncofactor-requires : goal.uncofactor-requires
uncofactor-requires c =
    let p = c.requires in
    let e = c.if-step-eq1.true in
    (keep_below p e, keep_room p e)

pub give-requires : goal.give-requires
give-requires c = keep_rows c.requires

pub returns-then-step-eq1 : goal.returns-then-step-eq1
returns-then-step-eq1 c = wanted-on c.if-want.true (keep_single c.requires c.if-step-eq1.true c.uncofactor.ensures)

pub returns-else-step-eq1 : goal.returns-else-step-eq1
returns-else-step-eq1 c = wanted-on c.if-want.true (keep_given c.requires c.give.ensures)

pub returns-else-want : goal.returns-else-want
returns-else-want c = wanted-off c.if-want.false
