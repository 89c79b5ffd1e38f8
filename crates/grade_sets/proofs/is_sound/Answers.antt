-- `grade_sets::is_sound` meets its contract.
use Prim.Native.Nat.{◌≤◌, ◌<◌}
use mathlib.Core.Path.{◌≡◌, refl, sym, ◌∙◌, ap₂}
use mathlib.Core.Bool.{true, false}
use native.Mathlib.Omega.{arith}
use borrow.Author.Rules.{rules}
use borrow.Author.Tests.{eq-eqb, ne_eqb}
use lib.Dec.{ltb}
use Rattle.rules.specs.GradeSet.{span, least_grade, greatest_grade}
use Rattle.laws.proofs.GradeSetLaws.{some-ordered}
use Rattle.grade_sets.proofs.BitLaws.{sound_by}
use Rattle.grade_sets.proofs.is_sound.Goals.{After-span, Else-set-eq0}
use Rattle.grade_sets.proofs.is_sound.Goals as goal

pub returns-then-set-eq0 : goal.returns-then-set-eq0
returns-then-set-eq0 c = let a = c.args in sym (sound_by a.m a.set true _ _ (eq-eqb _ _ c.if-set-eq0.true) refl refl)

some : (c : Else-set-eq0) → 0 < c.args.set
some c = let n = c.if-set-eq0.false in search rules

pub greatest-upper-requires : goal.greatest-upper-requires
greatest-upper-requires c = some (goal.at.greatest-upper-requires c).Else-set-eq0

ordered : (c : Else-set-eq0) → (least_grade c.args.set ≤ greatest_grade c.args.set) × (greatest_grade c.args.set < 16)
ordered c = some-ordered c.args.set (some c) (search rules)

pub span-requires : goal.span-requires
span-requires c =
    let o = ordered (goal.at.span-requires c).Else-set-eq0 in
    (omega (arith, o.0, c.least.ensures, c.greatest-upper.ensures), omega (arith, o.1, c.greatest-upper.ensures))

-- what `span` gave
the-span : (c : After-span) → c.span.result ≡ span (least_grade c.args.set) (greatest_grade c.args.set)
the-span c = c.span.ensures ∙ ap₂ span c.least.ensures c.greatest-upper.ensures

pub returns-then-from-span : goal.returns-then-from-span
returns-then-from-span c =
    let a = c.args in
    sym
    (sound_by a.m a.set false false _ (ne_eqb _ _ c.if-set-eq0.false)
    (ne_eqb _ _ (λ e. c.if-from-span.true (c.from.ensures ∙ e ∙ sym (the-span (goal.at.returns-then-from-span c).After-span))))
    refl)

pub returns : goal.returns
returns c =
    let a = c.args in
    ap₂ ltb c.greatest-upper.ensures c.from-2.ensures
    ∙ sym (sound_by a.m a.set false true _ (ne_eqb _ _ c.if-set-eq0.false) (eq-eqb _ _ (sym c.from.ensures ∙ c.if-from-span.false ∙ the-span (goal.at.returns c).After-span)) refl)
