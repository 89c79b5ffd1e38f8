-- `stage_plan::plan_stage` meets its contract.
use mathlib.Core.Path.{◌≡◌, sym, ◌∙◌, subst}
use lib.ListN.{length}
use borrow.Author.Rules.{rules}
use Rattle.rules.specs.Settings.{settings_of}
use Rattle.stage_plan.proofs.PlanLaws.{ordered, room-same, wide-here, kept_plan}
use Rattle.stage_drops.specs.Working.{Proper}
use Rattle.stage_plan.proofs.plan_stage.Goals as goal

pub returns-then-keeps_last : goal.returns-then-keeps_last
returns-then-keeps_last c =
    let p = c.requires in
    let e : length c.args.ks ≡ 8 = search rules in
    rw c.new.ensures (kept_plan p.0 c.lowest-low.ensures c.if-low-n.true e (sym c.keeps_last.ensures ∙ c.if-keeps_last.true) p.2)

pub returns-then-low-n : goal.returns-then-low-n
returns-then-low-n c = c.end.ensures.planned (settings_of c.args.how) c.args.m

pub learn-requires : goal.learn-requires
learn-requires c = let p = c.requires in (p.0, ordered p.0 p.1)

pub plan_known-requires : goal.plan_known-requires
plan_known-requires c =
    let p = c.requires in
    let k = c.learn.ensures in
    let is = c.lowest-low.ensures in
    (room-same p.0 k.len, subst (Proper c.args.m) (sym k.stage) p.1, k.masks c.args.m p.1 p.2, is, wide-here p.0 is c.if-low-n.false)
