-- `mask_making::make` meets its contract.
use Prim.Native.Nat.{ℕ, ◌+◌, ◌*◌, ◌<◌}
use mathlib.Core.Path.{◌≡◌, sym}
use mathlib.Core.List.{List}
use native.Mathlib.Omega.{arith}
use borrow.Author.Rules.{rules}
use lib.ListN.{get_or}
use Rattle.rules.specs.Cell.{step}
use Rattle.laws.proofs.LoopLaws.{card_read, is_absent, step_start, step_le, step-more}
use Rattle.mask_making.proofs.KeptLaws.{kept-space}
use Rattle.mask_making.proofs.MakeLaws.{filled_kept, building_none, building_skip, building_bits, building_more, made}
use Rattle.mask_making.proofs.make.Goals.{Joined-values-gt1, then-values-gt1, else-values-gt1}
use Rattle.mask_making.proofs.make.Goals as goal

pub loop-i-init : goal.loop-i-init
loop-i-init c =
    let l = c.fill.ensures in
    let ks : List ℕ = c.args.ks in
    (search rules, sym (step_start ks), kept-space c.requires (filled_kept l), building_none l ks)

pub mark_condition-requires : goal.mark_condition-requires
mark_condition-requires c =
    let l = c.loop-i in
    let h : l.i < 8 = search rules in
    let p = l.invariant.2 in (
      record { place = h; count = p.own; step_is = l.invariant.1 },
      card_read c.args.ks l.i (search rules),
      kept-space p l.invariant.3.kept,
      building_bits l.invariant.3 p h c.singleton.ensures,
    )

-- the next condition's step
next : (c : Joined-values-gt1)
    → let l = c.loop-i in
    let ks = c.args.ks in
    l.step * get_or ks l.i 0 ≡ step ks (l.i + 1)
next c =
    let l = c.loop-i in
    step-more c.args.ks l.i l.step (search rules) l.invariant.1

pub overflow_mul-step : goal.overflow_mul-step
overflow_mul-step c =
    let l = c.loop-i in
    let ks : List ℕ = c.args.ks in
    let few = l.invariant.2.shaped.few in
    omega (arith, next (goal.at.overflow_mul-step c).Joined-values-gt1, step_le ks (l.i + 1) l.invariant.2.shaped.some)

pub loop-i-preserved : goal.loop-i-preserved
loop-i-preserved c =
    let l = c.loop-i in
    let ks : List ℕ = c.args.ks in
    let h : l.i < 8 = search rules in (
      search rules,
      next (goal.at.loop-i-preserved c).Joined-values-gt1,
      l.invariant.2,
      elim c.if-values-gt1.branch [
        | then-values-gt1 x ↦ rw x.w-is (building_more l.invariant.3 l.invariant.2 h x.singleton.ensures x.mark_condition.ensures)
        | else-values-gt1 x ↦ rw x.w-is (building_skip l.invariant.3 (is_absent ks l.i (search rules) (omega (arith, x.if-values-gt1.false))))
      ],
    )

pub returns : goal.returns
returns c = made c.requires (search rules) (filled_kept c.fill.ensures) c.loop-i.invariant.3
