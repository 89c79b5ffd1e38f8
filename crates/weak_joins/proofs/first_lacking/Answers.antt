-- `weak_joins::first_lacking` meets its contract.
use mathlib.Core.Path.{ap}
use mathlib.Core.Bool.{not}
use native.Mathlib.Omega.{arith}
use borrow.Author.Rules.{rules}
use Rattle.rules.specs.declared.Gate.TheVariants.{Min, Max}
use Rattle.laws.proofs.LoopLaws.{is-present}
use Rattle.weak_joins.proofs.TryLaws.{found_none, found-max, found-min, is-lacking, not-lacking, none-lacking}
use Rattle.weak_joins.proofs.first_lacking.Goals as goal

pub returns-then-by_max-by_min : goal.returns-then-by_max-by_min
returns-then-by_max-by_min c = none-lacking c.args.ks c.args.by_max c.args.by_min c.if-by_max-by_min.true

pub returns-then-not-has_member : goal.returns-then-not-has_member
returns-then-not-has_member c =
    let b = c.args in
    let l = c.loop-condition in
    found-max l.invariant (search rules)
    (is-lacking b.ks b.by_max b.by_min Max l.condition (is-present b.ks l.condition (search rules) (omega (arith, c.if-card-gt1.true)))
    c.has_member.ensures (ap not c.if-not-has_member.true))

pub returns-then-not-has_member-2 : goal.returns-then-not-has_member-2
returns-then-not-has_member-2 c =
    let b = c.args in
    let l = c.loop-condition in
    found-min l.invariant (search rules)
    (not-lacking b.ks b.by_max b.by_min Max l.condition c.has_member.ensures (ap not c.if-not-has_member.false))
    (is-lacking b.ks b.by_max b.by_min Min l.condition (is-present b.ks l.condition (search rules) (omega (arith, c.if-card-gt1.true)))
    c.has_member-then-card-gt1.ensures (ap not c.if-not-has_member-2.true))

pub returns : goal.returns
returns c = found_none c.loop-condition.invariant (search rules)
