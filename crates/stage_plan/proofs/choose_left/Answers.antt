-- `stage_plan::choose_left` meets its contract.
use mathlib.Core.Path.{sym, subst}
use Rattle.stage_plan.proofs.PlanLaws.{ordered, space, made_stage, made_masks, room-same, wide-here, does-leaf, does-chosen, does-same}
use Rattle.stage_drops.specs.Working.{Proper}
use Rattle.stage_plan.proofs.choose_left.Goals as goal

pub returns-then-low-n : goal.returns-then-low-n
returns-then-low-n c = let p = c.requires in does-leaf p.0 p.2 c.if-low-n.true

pub make-requires : goal.make-requires
make-requires c = let p = c.requires in space p.0 (ordered p.0 p.1)

pub choose-requires : goal.choose-requires
choose-requires c =
    let p = c.requires in
    let d = c.make.ensures in
    let o = ordered p.0 p.1 in
    (room-same p.0 d.len, subst (Proper c.args.m) (sym (made_stage p.0 o d)) p.1, made_masks p.0 o d c.args.m p.1)

pub returns : goal.returns
returns c =
    let p = c.requires in
    let d = c.make.ensures in
    let o = ordered p.0 p.1 in
    does-same (made_stage p.0 o d) d.len
    (does-chosen c.args.ks c.make.new.w c.choose.result (wide-here p.0 p.2 c.if-low-n.false) (made_masks p.0 o d c.args.m p.1) c.choose.ensures)
