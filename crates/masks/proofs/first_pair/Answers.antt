-- `masks::first_pair` meets its contract.
use mathlib.Core.Path.{sym, subst, ap, ◌∙◌}
use Rattle.masks.specs.Searching.{Searched}
use mathlib.Core.Bool.{not}
use native.Mathlib.Omega.{arith}
use borrow.Author.Rules.{rules}
use Rattle.laws.proofs.LoopLaws.{is_absent, is-present}
use Rattle.tables.specs.Part.{part}
use Rattle.masks.proofs.SearchLaws.{inner_more, outer_more, outer_skip, absent_first, absent_second, both-there, found_none, found_pair}
use Rattle.masks.proofs.first_pair.Goals.{then-card-gt1+else-loop-j-test, else-card-gt1, else-ks-j-gt1-via-then-ks-j-gt1+else-not-has_member, else-ks-j-gt1-via-else-ks-j-gt1}
use Rattle.masks.proofs.first_pair.Goals as goal

pub loop-j-preserved : goal.loop-j-preserved
loop-j-preserved c =
    let a = c.args in
    let t = part a.w.now a.a a.n in
    let i = c.search.i in
    let j = c.loop-j.j in
    let there = is-present a.ks i (search rules) (omega (arith, c.if-card-gt1.true)) in (
      search rules,
      inner_more c.loop-j.invariant.1 c.loop-j-test.true
          (elim c.else-ks-j-gt1.branch [
            | else-ks-j-gt1-via-then-ks-j-gt1+else-not-has_member x ↦
                both-there a.ks t i j c.requires.0 there (is-present a.ks j (search rules) (omega (arith, x.if-ks-j-gt1.true)))
                c.seen_beside-beside.ensures x.has_member.ensures ∙ ap not x.if-not-has_member.false
            | else-ks-j-gt1-via-else-ks-j-gt1 x ↦ absent_second a.ks t i j there (is_absent a.ks j (search rules) (omega (arith, x.if-ks-j-gt1.false)))
          ]),
    )

pub search-preserved : goal.search-preserved
search-preserved c =
    let a = c.args in
    let o = c.search in
    elim c.if-card-gt1.branch [
      | then-card-gt1+else-loop-j-test x ↦ (x.found-is ∙ x.loop-j.invariant.0, outer_more o.invariant.1 x.loop-j.invariant.1 (omega (arith, x.loop-j-test.false)) (search rules))
      | else-card-gt1 x ↦ (
        x.found-is ∙ o.invariant.0,
        outer_skip o.invariant.1 (search rules)
            (λ k. absent_first a.ks (part a.w.now a.a a.n) o.i k (is_absent a.ks o.i (search rules) (omega (arith, x.if-card-gt1.false)))),
      )
    ]

pub returns-after-search : goal.returns-after-search
returns-after-search c = subst (Searched c.args.ks (part c.args.w.now c.args.a c.args.n)) (sym c.search.invariant.0) (found_none c.search.invariant.1 (search rules))

pub returns-then-not-has_member : goal.returns-then-not-has_member
returns-then-not-has_member c =
    let a = c.args in
    let ks = a.ks in
    let i = c.search.i in
    let j = c.loop-j.j in
    found_pair c.search.invariant.1 c.loop-j.invariant.1 c.loop-j-test.true
    (both-there ks (part a.w.now a.a a.n) i j c.requires.0
    (is-present ks i (search rules) (omega (arith, c.if-card-gt1.true)))
    (is-present ks j (search rules) (omega (arith, c.if-ks-j-gt1.true)))
    c.seen_beside-beside.ensures c.has_member.ensures ∙ ap not c.if-not-has_member.true)
