-- `grouping::growing::grow` meets its contract.
use mathlib.Core.Path.{◌≡◌, sym}
use Prim.Native.Nat.{◌+◌, ◌*◌}
use native.Mathlib.Omega.{arith}
use lib.ListN.{get_or}
use Rattle.rules.specs.Cell.{step}
use Rattle.laws.proofs.LoopLaws.{step_start, step_le, step-more}
use Rattle.grouping.proofs.GrowLaws.{grown_none, grown_more}
use borrow.Author.Rules.{rules}
use Rattle.grouping.proofs.growing.grow.Goals as goal

pub loop-i-init : goal.loop-i-init
loop-i-init c = let s = c.args in (search rules, sym (step_start s.ks), grown_none s.w.now s.ks s.low s.a s.b s.found.s s.found.t)

pub overflow_mul-step : goal.overflow_mul-step
overflow_mul-step c =
    let l = c.loop-i in
    let p = c.requires.1.shaped in
    let few = p.few in
    let next : l.step * get_or c.args.ks l.i 0 ≡ step c.args.ks (l.i + 1) = step-more c.args.ks l.i l.step (search rules) l.invariant.1 in
    omega (arith, step_le c.args.ks (l.i + 1) p.some)

pub loop-i-preserved : goal.loop-i-preserved
loop-i-preserved c =
    let l = c.loop-i in
    (search rules, step-more c.args.ks l.i l.step (search rules) l.invariant.1, grown_more l.i c.requires.1 l.invariant.2 c.add_condition-grown.ensures)
