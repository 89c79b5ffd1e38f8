-- `rows::grades::line_extreme` meets its contract.
use Rattle.std.proofs.Common.{ℕ, ◌+◌, ◌-◌, ◌*◌, ◌≡◌, sym, ◌∙◌, ap, refl, arith, rules, fold}
use Rattle.std.proofs.iter.Yields.{nat_range_steps}
use Rattle.std.proofs.lemmas.Fn.{fold_over}
use Rattle.std.proofs.lemmas.Iterator.{YieldsList-from_range}
use Rattle.std.proofs.lemmas.List.Sums.{fold_push}
use Rattle.std.specs.List.{range_with_len}
use Rattle.rules.specs.Bytes.{at}
use Rattle.tables.specs.Line.{best, line_best}
use Rattle.tables.proofs.LineLaws.{best-one, best-two}
use Rattle.rows.proofs.GradesLaws.{fold-line}
use Rattle.rows.proofs.grades.line_extreme.Goals as goal

pub returns-then-lines-eq2 : goal.returns-then-lines-eq2
returns-then-lines-eq2 c =
    let s = c.args in
    c.extreme.ensures ∙ best-two s.lines.greatest s.w.now s.a s.lines.step ∙ sym (ap (line_best s.lines.greatest s.w.now s.a s.lines.step) c.if-lines-eq2.true)

pub returns : goal.returns
returns c =
    let s = c.args in
    let w = s.w.now in
    let h : ℕ → ℕ → ℕ = λ y v. best s.lines.greatest y (at w (s.a + s.lines.step * v)) in
    let all : 1 + (s.lines.card - 1) ≡ s.lines.card = let h = c.requires.some in omega arith in
    fold_over nat_range_steps (λ v. v) _ (λ ys y. y ≡ fold h (at w s.a) ys) _
    (λ ys y v b f' j k. let e : b ≡ h y v = search rules in (e ∙ ap (λ x. h x v) j ∙ sym (fold_push h (at w s.a) ys v), search rules))
    _ (range_with_len 1 (s.lines.card - 1)) (at w s.a) c.fold.result (YieldsList-from_range 1 s.lines.card (s.lines.card - 1) refl refl).runs refl c.fold.ensures.ran
    ∙ fold-line s.lines.greatest w s.a s.lines.step 1 (s.lines.card - 1) (at w s.a) (best-one s.lines.greatest w s.a s.lines.step) ∙ ap (line_best s.lines.greatest w s.a s.lines.step) all
