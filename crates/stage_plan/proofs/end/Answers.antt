-- `stage_plan::end` meets its contract.
use borrow.Author.Rules.{rules}
use mathlib.Core.Path.{◌≡◌}
use lib.ListN.{length}
use Rattle.rules.specs.Cell.{singleton, without}
use Rattle.stage_plan.proofs.PlanLaws.{dropped_yes, dropped_no, ends_all, ends_one}
use Rattle.stage_plan.proofs.end.Goals as goal

pub returns-then-drop_last : goal.returns-then-drop_last
returns-then-drop_last c =
    let p = c.requires in
    let t = c.drop_last.ensures in
    let e : length c.args.ks ≡ 8 = search rules in
    rw c.new.ensures
    (ends_one p.0 p.1 p.2 (t.1 c.if-drop_last.true) e c.without_one-none.ensures (dropped_yes _ c.if-drop_last.true t.0) c.lowest.ensures)

pub returns : goal.returns
returns c =
    let p = c.requires in
    rw c.new-2.ensures (ends_all p.0 p.1 p.2 (dropped_no (without (singleton c.args.low.number) c.args.ks) c.if-drop_last.false c.drop_last.ensures.0))
