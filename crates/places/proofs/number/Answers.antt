-- `places::number` meets its contract.
use mathlib.Core.Path.{◌≡◌, refl, ap, ◌∙◌}
use mathlib.Core.List.{List}
use Prim.Native.Nat.{ℕ, ◌+◌, ◌-◌, ◌*◌, ◌<◌}
use native.Mathlib.Omega.{arith}
use lib.ListN.{length, get_or, take, drop}
use Rattle.std.proofs.Common.{get_or-take, get_or-drop, length-take, length-drop, length-append}
use borrow.Author.Rules.{rules}
use Rattle.std.proofs.lemmas.Slice.Zip.{zip_turn, zip_end}
use Rattle.rules.specs.Bytes.{at}
use Rattle.rules.specs.Cell.{number, step}
use Rattle.laws.proofs.LoopLaws.{take_whole}
use Rattle.laws.proofs.NumberLaws.{NumberRound, number_round}
use Rattle.places.proofs.number.Goals.{In-Some}
use Rattle.places.proofs.number.Goals as goal

-- the pair of a round, and what the round gives
turn : (c : In-Some) →
    let n = length c.loop-card.yielded in
    (n < 8) × (c.in-Some.card.now ≡ get_or c.args.ks n 0) × (c.in-Some.value.now ≡ at c.args.bytes.now (c.args.from + n))
turn c =
    let ks : List ℕ = c.args.ks in
    let bytes : List ℕ = c.args.bytes.now in
    let from : ℕ = c.args.from in
    let n = length c.loop-card.yielded in
    let t =
    zip_turn ks (take (from + 8 - from) (drop from bytes)) c.loop-card.yielded c.into_iter-card-iterator.result c.loop-card.card-iterator c.next.new.self c.next.result
    (search rules) (search rules) c.loop-card.yielded_by (c.in-Some.card, c.in-Some.value) c.in-Some.is c.next.ensures.steps in
    (omega (arith, t.0), t.2 0, t.3 0 ∙ get_or-take (from + 8 - from) (drop from bytes) n 0 (omega (arith, t.0)) ∙ get_or-drop from bytes n 0)

round : (c : In-Some) → NumberRound c.args.ks (λ j. at c.args.bytes.now (c.args.from + j)) (length c.loop-card.yielded) c.loop-card.cell c.loop-card.step
round c =
    let t = turn c in
    number_round c.args.ks (λ j. at c.args.bytes.now (c.args.from + j)) (length c.loop-card.yielded) c.loop-card.cell c.loop-card.step c.requires.0 (omega (arith, t.0))
    (λ j h. c.requires.3 j (omega (arith, t.0))) c.loop-card.invariant.0 c.loop-card.invariant.1

-- what the round lays, by the numbers that it read
laid : (c : In-Some) (value card : ℕ) → value ≡ c.in-Some.value.now → card ≡ c.in-Some.card.now →
    let n = length c.loop-card.yielded in
    (c.loop-card.cell + c.loop-card.step * value ≡ number (take (n + 1) c.args.ks) (λ j. at c.args.bytes.now (c.args.from + j))) × (c.loop-card.step * card ≡ step c.args.ks (n + 1))
laid c value card v k =
    let t = turn c in
    let r = round c in
    (ap (λ (v : ℕ). c.loop-card.cell + c.loop-card.step * v) (v ∙ t.2) ∙ r.cell-is, ap (λ (k : ℕ). c.loop-card.step * k) (k ∙ t.1) ∙ r.step_is)

pub overflow_mul-cell : goal.overflow_mul-cell
overflow_mul-cell c = let g = (goal.at.overflow_mul-cell c).In-Some in omega (arith, round g, laid g c.from.result c.in-Some.card.now c.from.ensures refl)

pub overflow_add-cell : goal.overflow_add-cell
overflow_add-cell c = let g = (goal.at.overflow_add-cell c).In-Some in omega (arith, round g, laid g c.from.result c.in-Some.card.now c.from.ensures refl)

pub overflow_mul-step : goal.overflow_mul-step
overflow_mul-step c = let g = (goal.at.overflow_mul-step c).In-Some in omega (arith, round g, laid g c.in-Some.value.now c.from-step.result refl c.from-step.ensures)

pub loop-card-preserved : goal.loop-card-preserved
loop-card-preserved c =
    rw length-append (laid (goal.at.loop-card-preserved c).In-Some c.from.result c.from-step.result c.from.ensures c.from-step.ensures)

pub returns : goal.returns
returns c =
    let ks : List ℕ = c.args.ks in
    let bytes : List ℕ = c.args.bytes.now in
    let from : ℕ = c.args.from in
    let e =
    zip_end ks (take (from + 8 - from) (drop from bytes)) c.loop-card.yielded c.into_iter-card-iterator.result c.loop-card.card-iterator c.next.new.self c.next.result
    (search rules) (search rules) c.loop-card.yielded_by c.in-None.is c.next.ensures.steps in
    let long : length (take (from + 8 - from) (drop from bytes)) ≡ 8 = omega (arith, length-take (from + 8 - from) (drop from bytes), length-drop from bytes) in
    let full : length ks ≡ length c.loop-card.yielded = omega (arith, e, long) in
    c.loop-card.invariant.0 ∙ ap (λ (l : List ℕ). number l (λ j. at bytes (from + j))) (take_whole ks (length c.loop-card.yielded) full)
