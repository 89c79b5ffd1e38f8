-- `grouping::growing::add_condition` meets its contract.
use mathlib.Core.Path.{sym, ◌∙◌}
use borrow.Author.Rules.{rules}
use borrow.Author.Tests.{lt-leb}
use Rattle.laws.proofs.LoopLaws.{is-present}
use Rattle.grouping.proofs.GrowLaws.{open_from, second_smaller}
use Rattle.grouping.proofs.growing.add_condition.Goals as goal

pub returns : goal.returns
returns c =
    let s = c.args in
    let f = s.found in
    rw (c.turned-2.ensures.0, c.turned-2.ensures.1)
    (second_smaller s.w.now s.ks s.low s.a s.b f.s f.t s.i
    (open_from (is-present s.ks s.i (search rules) c.if-ks-i-lt2.false) (sym c.has.ensures ∙ c.if-has.false))
    (rw (← c.count.ensures, ← c.count-2.ensures) (lt-leb _ _ c.if-count.false))
    (rw (c.turned.ensures.0, c.turned.ensures.1) at c.add_in_order-2.ensures))
