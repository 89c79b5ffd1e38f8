-- `stage_drops::drop_all` meets its contract.
use mathlib.Core.Path.{sym, ◌∙◌, ap}
use Prim.Native.Nat.{◌+◌}
use native.Mathlib.Omega.{arith}
use Rattle.rules.specs.Cell.{cells}
use borrow.Author.Rules.{rules}
use Rattle.stage_drops.proofs.DropLaws.{Going, going_none, going_try, going_less, going_same, going_on, going_low}
use Rattle.stage_drops.proofs.drop_all.Goals.{Joined-drop_if_possible, then-drop_if_possible, else-drop_if_possible}
use Rattle.stage_drops.proofs.drop_all.Goals as goal

pub loop-i-init : goal.loop-i-init
loop-i-init c = (search rules, going_none c.requires)

pub drop_if_possible-requires : goal.drop_if_possible-requires
drop_if_possible-requires c = going_try c.requires c.loop-i-test.true c.loop-i.invariant.1

-- condition i is tried
next : (c : Joined-drop_if_possible)
    → let s = c.args in let l = c.loop-i in
    Going s.ks s.w.now (l.i + 1) l.i c.if-drop_if_possible.left c.if-drop_if_possible.n l.step c.drop_if_possible.new.w
next c =
    let l = c.loop-i in
    let d = c.drop_if_possible in
    elim c.if-drop_if_possible.branch [
      | then-drop_if_possible y ↦
          going_less l.invariant.1 d.result d.ensures y.if-drop_if_possible.true (y.left-is ∙ y.without_one-left.ensures)
          (y.n-is ∙ y.cell_count-n.ensures ∙ ap cells (sym y.left-is))
      | else-drop_if_possible y ↦ going_same l.invariant.1 d.result d.ensures y.if-drop_if_possible.false y.left-is y.n-is
    ]

pub overflow_mul-step : goal.overflow_mul-step
overflow_mul-step c = omega (arith, going_low (next (goal.at.overflow_mul-step c).Joined-drop_if_possible) (search rules) c.requires)

pub loop-i-preserved : goal.loop-i-preserved
loop-i-preserved c = (search rules, going_on (next (goal.at.loop-i-preserved c).Joined-drop_if_possible) (search rules))
