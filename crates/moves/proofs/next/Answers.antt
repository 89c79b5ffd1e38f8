-- `moves::next` meets its contract.
use Prim.Native.Nat.{ℕ, ◌+◌, ◌-◌, ◌*◌, ◌<◌}
use mathlib.Core.List.{List}
use mathlib.Core.Path.{◌≡◌, refl, ◌∙◌}
use native.Mathlib.Nat.{add-zero, add_assoc}
use native.Mathlib.Omega.{arith}
use borrow.Author.Rules.{rules}
use lib.ListN.{length, drop, take}
use Rattle.std.proofs.Common.{length-append, length-drop, length-take, get_or-drop, get_or-take}
use Rattle.std.proofs.lemmas.Slice.Zip.{zip_turn, zip_end}
use Rattle.laws.proofs.LoopLaws.{step_le}
use Rattle.laws.proofs.MoveLaws.{Turns, turns_low, turns_end}
use Rattle.moves.specs.Move.{remap_from}
use Rattle.moves.proofs.MoveLaws.{Place, place, turn_take, turn_stop, turn_more, turn_skip}
use Rattle.moves.proofs.next.Goals.{In-Some, Joined-k-gt1, then-k-gt1+else-value-k, else-k-gt1}
use Rattle.moves.proofs.next.Goals as goal

pub loop-k-init : goal.loop-k-init
loop-k-init c = rw add-zero (record { step_is = c.requires.3; at-is = c.requires.4; goal_is = refl })

-- the places from `from` on
abbrev behind : ℕ → List ℕ → List ℕ
behind from ks = take (8 - from) (drop from ks)

-- the place of a round, by the numbers that it read
here : (c : In-Some) (k l : ℕ) → k ≡ c.in-Some.k.now → l ≡ c.in-Some.l.now → Place c.args.b c.args.a (c.args.run.places + length c.loop-k.yielded) k l
here c k l ek el =
    let b : List ℕ = c.args.b in
    let a : List ℕ = c.args.a in
    let from : ℕ = c.args.run.places in
    let n = length c.loop-k.yielded in
    let t =
    zip_turn (behind from b) (behind from a) c.loop-k.yielded c.into_iter-k-iterator.result c.loop-k.k-iterator c.next.new.self c.next.result
    (search rules) (search rules) c.loop-k.yielded_by (c.in-Some.k, c.in-Some.l) c.in-Some.is c.next.ensures.steps in
    let few : n < 8 - from = omega (arith, t.0, length-take (8 - from) (drop from b)) in
    place c.requires.0 c.requires.1 (omega arith) (omega arith) (ek ∙ t.2 0 ∙ get_or-take (8 - from) (drop from b) n 0 few ∙ get_or-drop from b n 0)
    (el ∙ t.3 0 ∙ get_or-take (8 - from) (drop from a) n 0 few ∙ get_or-drop from a n 0)

-- the next cell's number
abbrev next_cell : In-Some → ℕ
next_cell c = c.args.run.first * remap_from c.args.run.places c.args.b c.args.a (c.args.r + 1)

low : (c : In-Some) → (c.loop-k.at < 1024) × (next_cell c < 1024)
low c =
    let few = c.requires.0.few in
    let t = turns_low c.loop-k.invariant c.requires.0.some in
    (omega (arith, t.0), omega (arith, t.1))

pub nonzero_rem-at : goal.nonzero_rem-at
nonzero_rem-at c = (here (goal.at.nonzero_rem-at c).In-Some c.from-k.result c.from-l.result c.from-k.ensures c.from-l.ensures).l_pos

pub overflow_mul-at : goal.overflow_mul-at
overflow_mul-at c = omega (arith, turn_take c.loop-k.invariant (here (goal.at.overflow_mul-at c).In-Some c.from-k.result c.from-l.result c.from-k.ensures c.from-l.ensures), low (goal.at.overflow_mul-at c).In-Some)

pub overflow_sub-at : goal.overflow_sub-at
overflow_sub-at c = turn_take c.loop-k.invariant (here (goal.at.overflow_sub-at c).In-Some c.from-k.result c.from-l.result c.from-k.ensures c.from-l.ensures)

pub nonzero_rem-result : goal.nonzero_rem-result
nonzero_rem-result c = (here (goal.at.nonzero_rem-result c).In-Some c.from-k.result c.from-l.result c.from-k.ensures c.from-l.ensures).l_pos

pub overflow_mul-result : goal.overflow_mul-result
overflow_mul-result c =
    omega (arith, turn_stop c.loop-k.invariant (here (goal.at.overflow_mul-result c).In-Some c.from-k.result c.from-l.result c.from-k.ensures c.from-l.ensures) c.if-value-k.true, low (goal.at.overflow_mul-result c).In-Some)

pub overflow_add-result-then-value-k : goal.overflow_add-result-then-value-k
overflow_add-result-then-value-k c =
    omega (arith, turn_stop c.loop-k.invariant (here (goal.at.overflow_add-result-then-value-k c).In-Some c.from-k.result c.from-l.result c.from-k.ensures c.from-l.ensures) c.if-value-k.true, low (goal.at.overflow_add-result-then-value-k c).In-Some)

pub returns-then-value-k : goal.returns-then-value-k
returns-then-value-k c = turn_stop c.loop-k.invariant (here (goal.at.returns-then-value-k c).In-Some c.from-k.result c.from-l.result c.from-k.ensures c.from-l.ensures) c.if-value-k.true

-- the place turns to its first value, or has no condition
more : (c : Joined-k-gt1) →
    let i = c.args.run.places + length c.loop-k.yielded in
    Place c.args.b c.args.a i c.from-k.result c.from-l.result
    → Turns c.args.b c.args.a (c.args.run.first * remap_from c.args.run.places c.args.b c.args.a (c.args.r + 1)) (i + 1) c.if-k-gt1.rest c.if-k-gt1.at (c.loop-k.step * c.from-l.result)
more c y =
    elim c.if-k-gt1.branch [
      | then-k-gt1+else-value-k w ↦ rw (w.rest-is, w.at-is) (turn_more c.loop-k.invariant y w.if-value-k.false)
      | else-k-gt1 w ↦ rw (w.rest-is, w.at-is) (turn_skip c.loop-k.invariant y w.if-k-gt1.false)
    ]

pub overflow_mul-step : goal.overflow_mul-step
overflow_mul-step c =
    let few = c.requires.0.few in
    let t = more (goal.at.overflow_mul-step c).Joined-k-gt1 (here (goal.at.overflow_mul-step c).In-Some c.from-k.result c.from-l.result c.from-k.ensures c.from-l.ensures) in
    omega (arith, t.step_is, step_le c.args.a (c.args.run.places + length c.loop-k.yielded + 1) c.requires.0.some)

pub loop-k-preserved : goal.loop-k-preserved
loop-k-preserved c =
    rw (length-append, ← (add_assoc c.args.run.places (length c.loop-k.yielded) 1))
    (more (goal.at.loop-k-preserved c).Joined-k-gt1 (here (goal.at.loop-k-preserved c).In-Some c.from-k.result c.from-l.result c.from-k.ensures c.from-l.ensures))

pub returns : goal.returns
returns c =
    let b : List ℕ = c.args.b in
    let a : List ℕ = c.args.a in
    let from : ℕ = c.args.run.places in
    let e =
    zip_end (behind from b) (behind from a) c.loop-k.yielded c.into_iter-k-iterator.result c.loop-k.k-iterator c.next.new.self c.next.result
    (search rules) (search rules) c.loop-k.yielded_by c.in-None.is c.next.ensures.steps in
    turns_end c.loop-k.invariant (omega (arith, e, length-take (8 - from) (drop from b), length-take (8 - from) (drop from a), length-drop from b, length-drop from a))
