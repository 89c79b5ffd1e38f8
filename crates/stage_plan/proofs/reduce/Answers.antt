-- `stage_plan::reduce` meets its contract.
use Rattle.stage_plan.proofs.PlanLaws.{left-room, left-proper}
use Rattle.stage_plan.proofs.reduce.Goals as goal

pub choose_left-choice-requires : goal.choose_left-choice-requires
choose_left-choice-requires c =
    let p = c.requires in
    let t = c.drop_all-kept.ensures in
    (left-room p.0 p.1 t.0 t.1, left-proper p.0 p.1 t.0, c.lowest-low.ensures)
