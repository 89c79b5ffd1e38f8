-- `places::step` meets its contract.
use mathlib.Core.Path.{◌≡◌, sym, ap, ◌∙◌}
use mathlib.Core.List.{List}
use Prim.Native.Nat.{ℕ, ◌+◌, ◌*◌, ◌<◌}
use native.Mathlib.Omega.{arith}
use lib.ListN.{get_or}
use lib.Seq.{get_or-take, length-take-le}
use Rattle.rules.specs.Cell.{step}
use Rattle.laws.proofs.LoopLaws.{step_start, step-more}
use Rattle.laws.proofs.NumberLaws.{step_fits}
use mir.Val.{Fits}
use mir.Syntax.{w8}
use borrow.Author.Rules.{rules}
use Rattle.places.proofs.step.Goals.{After-from-product}
use Rattle.places.proofs.step.Goals as goal

pub loop-card-init : goal.loop-card-init
loop-card-init c = sym (step_start c.args.ks)

-- one round more
next : (c : After-from-product) → c.loop-card.product * c.from-product.result ≡ step c.args.ks (c.loop-card.card-index + 1)
next c =
    let ks : List ℕ = c.args.ks in
    let j = c.loop-card.card-index in
    let below : j < c.args.i = omega (arith, length-take-le c.args.i ks (omega arith)) in
    ap (λ (k : ℕ). c.loop-card.product * k) (c.from-product.ensures ∙ get_or-take c.args.i ks j 0 below)
    ∙ step-more ks j c.loop-card.product (omega arith) c.loop-card.invariant

pub overflow_mul-product : goal.overflow_mul-product
overflow_mul-product c =
    let ks : List ℕ = c.args.ks in
    let bytes : (j : ℕ) → Fits w8 (get_or ks j 0) = λ j. search rules in
    record { fits = rw (next (goal.at.overflow_mul-product c).After-from-product) (step_fits ks (c.loop-card.card-index + 1) (λ j. (bytes j).fits) (omega (arith, length-take-le c.args.i ks (omega arith)))) }

pub loop-card-preserved : goal.loop-card-preserved
loop-card-preserved c = next (goal.at.loop-card-preserved c).After-from-product

pub returns : goal.returns
returns c =
    let ks : List ℕ = c.args.ks in
    let e : c.loop-card.card-index ≡ c.args.i = omega (arith, length-take-le c.args.i ks (omega arith)) in
    c.loop-card.invariant ∙ ap (step ks) e
