-- `editions::set_to_limits` meets its contract.
use Rattle.std.proofs.Common.{◌≡◌, ℕ, ◌∷◌, drop, ◌∙◌, ap, ap₂, arith}
use Rattle.rules.specs.Bytes.{word}
use Rattle.rules.specs.GradeSet.{least_grade, greatest_grade}
use Rattle.editions.proofs.ConvertLaws.{four-sets}
use Rattle.editions.proofs.set_to_limits.Goals as goal

pub returns : goal.returns
returns c =
    let r = c.args.r.now in
    let least = c.least.result in
    let greatest = c.greatest.result in
    let set : c.from_le_bytes-set.result ≡ word r 2 = omega (arith, c.from_le_bytes-set.ensures) in
    four-sets r c.from.result least greatest 0 (omega arith)
    ∙ ap (λ (k : ℕ). k ∷ least ∷ greatest ∷ 0 ∷ drop 4 r) c.from.ensures
    ∙ ap₂ (λ (l u : ℕ). 3 ∷ l ∷ u ∷ 0 ∷ drop 4 r) (c.least.ensures ∙ ap least_grade set) (c.greatest.ensures ∙ ap greatest_grade set)
