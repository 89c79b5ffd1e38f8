-- `grouping::growing::try_add` meets its contract.
use mathlib.Core.Path.{sym, ◌∙◌}
use native.Mathlib.Omega.{arith}
use Rattle.grouping.proofs.GrowLaws.{tried_yes}
use Rattle.grouping.proofs.KeptLaws.{in_place}
use Rattle.grouping.proofs.growing.try_add.Goals as goal

pub returns-then-joins : goal.returns-then-joins
returns-then-joins c =
    let s = c.args in
    let e = c.requires.0.count in
    let d = c.requires.1.second.dst in
    rw c.if-joins.true
    (tried_yes (sym c.if-joins.true ∙ c.may_add-joins.ensures) (in_place s.w.now s.grow s.n (omega arith) s.ks s.i e c.over_one.ensures))
