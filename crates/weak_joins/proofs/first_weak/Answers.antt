-- `weak_joins::first_weak` meets its contract.
use mathlib.Core.Path.{◌≡◌, ap, ◌∙◌}
use mathlib.Core.Bool.{false, not}
use lib.ListN.{length}
use borrow.Author.Rules.{rules}
use Rattle.stage_drops.specs.Working.{front_stage}
use Rattle.weak_joins.proofs.TryLaws.{is_found, tried_by}
use Rattle.weak_joins.proofs.first_weak.Goals as goal

pub returns : goal.returns
returns c =
    let b = c.args in
    let p = c.requires in
    let e : length b.ks ≡ 8 = search rules in
    c.first_lacking.ensures ∙ is_found p.0 p.1 p.2 e c.common-by_max.ensures c.common-by_min.ensures
    ∙ tried_by b.m b.may (front_stage b.ks b.w.now) false (ap not c.if-not-may.false)
