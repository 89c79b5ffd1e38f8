-- `network::check` meets its contract.
use mathlib.Core.Path.{◌≡◌, refl, sym, ap, ◌∙◌}
use mathlib.Core.Bool.{Bool, true, false, ◌&&◌}
use mathlib.Core.List.{List, [], ◌∷◌}
use Prim.Native.Nat.{ℕ}
use native.Mathlib.Omega.{arith}
use borrow.Author.Tests.{le-leb, lt-leb}
use lib.Dec.{leb, ltb}
use lib.ListN.{length}
use Rattle.rules.specs.Bytes.{at, all}
use Rattle.rules.specs.Cell.{cells}
use Rattle.rules.specs.Limits.{limits_of, limits_sound}
use Rattle.rules.specs.Verdict.{accepted, roomy}
use Rattle.laws.proofs.ByteLaws.{past_same}
use Rattle.laws.proofs.VerdictLaws.{ok-err}
use Rattle.shape.specs.declared.Shape.{Shape}
use Rattle.shape.specs.Shapes.{places_of}
use Rattle.network.proofs.CallLaws.{network_tested, check_by, roomy-means}
use Rattle.network.proofs.CheckLaws.{checked}
use borrow.Author.Rules.{rules}
use Rattle.network.proofs.check.Goals.{Else-not-has_room, Else-not-limits_sound}
use Rattle.network.proofs.check.Goals as goal

pub returns-then-not-sound : goal.returns-then-not-sound
returns-then-not-sound c =
    let a = c.args in
    checked a.shape a.network.now a.lower.now a.upper.now a.work.now _ _ (λ r e. refl) past_same
    (sym (check_by a.shape a.network.now a.lower.now a.upper.now a.work.now false _ _ _ _ (sym c.sound.ensures ∙ c.if-not-sound.true) refl refl refl refl))

-- the tests of the limits are those of the rules
room-is : (shape : Shape) (lower upper : List ℕ) {n : ℕ} {r b : Bool} → n ≡ cells (places_of shape)
    → r ≡ roomy n (length lower ∷ length upper ∷ []) → r ≡ b → roomy (cells (places_of shape)) (length lower ∷ length upper ∷ []) ≡ b
room-is shape lower upper p s e = ap (λ (n : ℕ). roomy n (length lower ∷ length upper ∷ [])) (sym p) ∙ sym s ∙ e

roomy-passes : (c : Else-not-has_room) → (let a = c.args in roomy (cells (places_of a.shape)) (length a.lower.now ∷ length a.upper.now ∷ []) ≡ true)
roomy-passes c = room-is c.args.shape c.args.lower.now c.args.upper.now c.cells-cells.ensures c.has_room.ensures c.if-not-has_room.false

pub returns-then-not-has_room : goal.returns-then-not-has_room
returns-then-not-has_room c =
    let a = c.args in
    checked a.shape a.network.now a.lower.now a.upper.now a.work.now _ _ (λ r e. refl) past_same
    (sym (check_by a.shape a.network.now a.lower.now a.upper.now a.work.now true false _ _ _ (sym c.sound.ensures ∙ c.if-not-sound.false) (room-is a.shape a.lower.now a.upper.now c.cells-cells.ensures c.has_room.ensures c.if-not-has_room.true) refl refl refl))

pub returns-then-work-network : goal.returns-then-work-network
returns-then-work-network c =
    let a = c.args in
    checked a.shape a.network.now a.lower.now a.upper.now a.work.now _ _ (λ r e. refl) past_same
    (sym (check_by a.shape a.network.now a.lower.now a.upper.now a.work.now true true false _ _ (sym c.sound.ensures ∙ c.if-not-sound.false) (roomy-passes (goal.at.returns-then-work-network c).Else-not-has_room) (lt-leb _ _ c.if-work-network.true) refl refl))

pub limits_sound-requires : goal.limits_sound-requires
limits_sound-requires c =
    let a = c.args in
    let room = roomy-means (cells (places_of a.shape)) (length a.lower.now) (length a.upper.now) (roomy-passes (goal.at.limits_sound-requires c).Else-not-has_room) in
    let e = c.cells-cells.ensures in
    (omega (arith, room.0, e), omega (arith, room.1, e))

limits-are : (shape : Shape) (lower upper : List ℕ) {n : ℕ} {r b : Bool} → n ≡ cells (places_of shape)
    → r ≡ all n (λ i. leb (at lower i) (at upper i) && ltb (at upper i) shape.m) → r ≡ b → limits_sound (places_of shape) shape.m (limits_of lower upper) ≡ b
limits-are shape lower upper p s e = ap (λ (n : ℕ). all n (λ i. leb (at lower i) (at upper i) && ltb (at upper i) shape.m)) (sym p) ∙ sym s ∙ e

limits-pass : (c : Else-not-limits_sound) → (let a = c.args in limits_sound (places_of a.shape) a.shape.m (limits_of a.lower.now a.upper.now) ≡ true)
limits-pass c = limits-are c.args.shape c.args.lower.now c.args.upper.now c.cells-cells.ensures c.limits_sound.ensures c.if-not-limits_sound.false

pub returns-then-not-limits_sound : goal.returns-then-not-limits_sound
returns-then-not-limits_sound c =
    let a = c.args in
    checked a.shape a.network.now a.lower.now a.upper.now a.work.now _ _ (λ r e. refl) past_same
    (sym (check_by a.shape a.network.now a.lower.now a.upper.now a.work.now true true true false _ (sym c.sound.ensures ∙ c.if-not-sound.false) (roomy-passes (goal.at.returns-then-not-limits_sound c).Else-not-has_room) (le-leb _ _ c.if-work-network.false) (limits-are a.shape a.lower.now a.upper.now c.cells-cells.ensures c.limits_sound.ensures c.if-not-limits_sound.true) refl))

pub returns-then-not-scan : goal.returns-then-not-scan
returns-then-not-scan c =
    let a = c.args in
    checked a.shape a.network.now a.lower.now a.upper.now a.work.now _ _ (λ r e. refl) past_same
    (sym (check_by a.shape a.network.now a.lower.now a.upper.now a.work.now true true true true false (sym c.sound.ensures ∙ c.if-not-sound.false) (roomy-passes (goal.at.returns-then-not-scan c).Else-not-has_room) (le-leb _ _ c.if-work-network.false) (limits-pass (goal.at.returns-then-not-scan c).Else-not-limits_sound) (network_tested a.shape a.network.now c.places.ensures c.scan.ensures c.if-not-scan.true)))

pub first_outside-requires : goal.first_outside-requires
first_outside-requires c =
    let a = c.args in
    let room = roomy-means (cells (places_of a.shape)) (length a.lower.now) (length a.upper.now) (roomy-passes (goal.at.first_outside-requires c).Else-not-has_room) in
    record {
      ready = record { shape-sound = sym c.sound.ensures ∙ c.if-not-sound.false; network-sound = network_tested a.shape a.network.now c.places.ensures c.scan.ensures c.if-not-scan.false; room = search rules };
      lower-room = room.0;
      upper-room = room.1;
    }

pub shape_of-work : goal.shape_of-work
shape_of-work c = c.first_outside.ensures.kept.long

pub returns : goal.returns
returns c =
    let a = c.args in
    let found = c.first_outside.ensures in
    checked a.shape a.network.now a.lower.now a.upper.now a.work.now _ _
    (λ r e. ok-err e) found.kept
    (ap accepted found.finds
    ∙ sym
    (check_by a.shape a.network.now a.lower.now a.upper.now a.work.now true true true true true (sym c.sound.ensures ∙ c.if-not-sound.false) (roomy-passes (goal.at.returns c).Else-not-has_room)
    (le-leb _ _ c.if-work-network.false) (limits-pass (goal.at.returns c).Else-not-limits_sound) (network_tested a.shape a.network.now c.places.ensures c.scan.ensures c.if-not-scan.false)))
