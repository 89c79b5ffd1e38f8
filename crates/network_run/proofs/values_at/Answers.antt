-- `network_run::values_at` meets its contract.
use Prim.Native.Nat.{◌≤◌}
use native.Mathlib.Nat.{mod-lt}
use native.Mathlib.Omega.{arith}
use mir.Val.{Fits}
use mir.Syntax.{w8}
use lib.ListN.{get_or}
use Rattle.network_run.proofs.ValueLaws.{values-none, values-positive, values-next, values-all}
use borrow.Author.Rules.{rules}
use Rattle.network_run.proofs.values_at.Goals.{After-from-card}
use Rattle.network_run.proofs.values_at.Goals as goal

pub loop-place-init : goal.loop-place-init
loop-place-init c = values-none c.args.ks c.args.cell (search rules)

positive : (c : After-from-card) → 1 ≤ c.from-card.result
positive c =
    let l = c.loop-place in
    values-positive c.args.ks (search rules) c.args.cell l.place-items l.rest l.place-index l.invariant c.from-card.result c.from-card.ensures c.loop-place-test.true c.requires

pub nonzero_rem-place : goal.nonzero_rem-place
nonzero_rem-place c = positive c

pub overflow_cast-place : goal.overflow_cast-place
overflow_cast-place c =
    let l = c.loop-place in
    let byte : Fits w8 (get_or l.place-items l.place-index 0) = search rules in
    omega (arith, mod-lt l.rest (positive c), byte.fits, c.from-card.ensures)

pub nonzero_div-rest : goal.nonzero_div-rest
nonzero_div-rest c = positive c

pub loop-place-preserved : goal.loop-place-preserved
loop-place-preserved c =
    let l = c.loop-place in
    values-next c.args.ks (search rules) c.args.cell l.place-items l.rest l.place-index l.invariant c.from-card.result c.from-card.ensures c.loop-place-test.true

pub returns : goal.returns
returns c =
    let l = c.loop-place in
    values-all c.args.ks (search rules) c.args.cell l.place-items l.rest l.place-index l.invariant c.loop-place-test.false
