-- `lines::below` meets its contract.
use Rattle.std.proofs.Common.{◌+◌, ◌-◌, ◌*◌, ◌<◌, ◌≤◌, ◌≡◌, rules, tests, refl, arith}
use Rattle.std.proofs.lemmas.Iterator.{cases_from_any, YieldsList-from_range}
use Rattle.rules.specs.Bytes.{at}
use Rattle.lines.proofs.BelowLaws.{line-any}
use Rattle.lines.proofs.below.Goals as goal

pub returns : goal.returns
returns c =
    let s = c.args in
    let w = s.w.now in
    let long : s.card - 0 ≡ s.card = omega arith in
    line-any w s.a s.step s.card s.grade c.any.result c.requires.some
    (cases_from_any _ _ c.any.result (λ v. at w (s.a + s.step * v) < s.grade) (λ v. s.grade ≤ at w (s.a + s.step * v)) c.any.ensures.ran
    (YieldsList-from_range 0 s.card s.card refl long) (λ x q k. search (rules, tests)) (λ x q k. search (rules, tests)))
