-- `editions::limits_to_set` meets its contract.
use Rattle.std.proofs.Common.{◌≡◌, ℕ, ◌/◌, ◌%◌, List, ◌∷◌, drop, ◌∙◌, ap, ap₂, arith}
use Rattle.rules.specs.Bytes.{at}
use Rattle.rules.specs.GradeSet.{span}
use Rattle.laws.proofs.GradeSetLaws.{span_below}
use Rattle.editions.proofs.ConvertLaws.{four-sets}
use Rattle.editions.proofs.limits_to_set.Goals as goal

pub returns : goal.returns
returns c =
    let r = c.args.r.now in
    let kind = c.from-3.result in
    let low = at c.to_le_bytes.result 0 in
    let high = at c.to_le_bytes.result 1 in
    let set : ℕ = span (at r 1) (at r 2) in
    let is : c.span-set.result ≡ set = c.span-set.ensures ∙ ap₂ span c.from.ensures c.from-2.ensures in
    let below = span_below (at r 1) (at r 2) 16 c.requires.1.1 in
    let low-is : low ≡ set % 256 = omega (arith, ap (λ (l : List ℕ). at l 0) c.to_le_bytes.ensures, is) in
    let high-is : high ≡ set / 256 = omega (arith, ap (λ (l : List ℕ). at l 1) c.to_le_bytes.ensures, is, below) in
    four-sets r kind 0 low high (omega arith)
    ∙ ap (λ (k : ℕ). k ∷ 0 ∷ low ∷ high ∷ drop 4 r) c.from-3.ensures
    ∙ ap₂ (λ (l h : ℕ). 4 ∷ 0 ∷ l ∷ h ∷ drop 4 r) low-is high-is
