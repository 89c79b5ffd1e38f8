-- `stage_plan::plan_known` meets its contract.
use borrow.Author.Rules.{rules}
use mathlib.Core.Path.{◌≡◌, sym, ◌∙◌}
use lib.ListN.{length}
use native.Mathlib.Omega.{arith}
use Rattle.rules.specs.Settings.{settings_of}
use Rattle.stage_plan.proofs.PlanLaws.{number-below, full_plan, seen_none, does-chosen, planned}
use Rattle.stage_plan.proofs.plan_known.Goals as goal

pub both_full-requires : goal.both_full-requires
both_full-requires c =
    let p = c.requires in
    let e : length c.args.ks ≡ 8 = search rules in
    let r = p.0.room in
    (number-below p.0 p.3 p.2 e p.4, omega arith)

pub returns-then-both_full : goal.returns-then-both_full
returns-then-both_full c =
    let p = c.requires in
    let e : length c.args.ks ≡ 8 = search rules in
    rw c.new.ensures (full_plan p.0 p.3 p.2 e (settings_of c.args.how) p.4 (sym c.both_full.ensures ∙ c.if-both_full.true))

pub full-requires : goal.full-requires
full-requires c =
    let p = c.requires in
    let e : length c.args.ks ≡ 8 = search rules in
    number-below p.0 p.3 p.2 e p.4

pub returns-then-full : goal.returns-then-full
returns-then-full c =
    let p = c.requires in
    let e : length c.args.ks ≡ 8 = search rules in
    rw c.new-then-full.ensures
    (planned p.0 p.3 (seen_none p.0 p.3 p.2 e c.seen-seen.ensures (sym c.full.ensures ∙ c.if-full.true))
    (does-chosen c.args.ks c.args.w.now c.choose-choice.result p.4 p.2 c.choose-choice.ensures))
