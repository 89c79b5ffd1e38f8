-- What the answer to the bytes of a shape says of a call's verdict.
use Prim.Native.Nat.{ℕ, ◌<◌}
use mathlib.Core.Path.{◌≡◌, refl, sym, ap, ◌∙◌}
use mathlib.Core.Bool.{Bool, true, false, cond}
use mathlib.Core.List.{List}
use native.Mathlib.Omega.{arith}
use borrow.Author.Tests.{eqb-true, eq-eqb}
use lib.Dec.{eqb}
use lib.ListN.{length, take, drop, length-take, length-drop}
use Rattle.rules.specs.declared.Refusal.{Refusal}
use Rattle.rules.specs.declared.Refusal.TheVariants.{ShapeRange}
use Rattle.rules.specs.Bytes.{at}
use Rattle.rules.specs.Shape.{shape_sound}
use Rattle.rules.specs.Verdict.{Verdict, accepted, refused, unless}
use Rattle.laws.proofs.TestLaws.{passes}
use Rattle.laws.proofs.VerdictLaws.{refused-accepted, accepted-same, refused-same, row_passed}
use Rattle.shape.specs.declared.Shape.{Shape}
use Rattle.shape.specs.Shapes.{is_sound, new_shape, shape_of_bytes}
use Rattle.shape.proofs.ShapeLaws.{sound_from}
use Rattle.panel_answers.specs.Answers.{lent_shape, lent, call_number}

-- bytes that are accepted: ten, and this is their shape, which row 4 lets pass
pub record Made (b : List ℕ) (s : Shape) : Type 0 where
  pub ten : length b ≡ 10
  pub same : s ≡ lent_shape b
  pub sound : is_sound (lent_shape b) ≡ true

-- rows of which the first is row 4
abbrev pub FirstFour : {A : Type 0} → (Shape → Verdict A) → Type 0
FirstFour rows = (s : Shape) → is_sound s ≡ false → rows s ≡ refused ShapeRange

module _ (b : List ℕ) where
  -- row 4 of ten bytes
  sound_of : length b ≡ 10 → is_sound (lent_shape b) ≡ shape_sound (at b 0) (take 8 (drop 1 b)) (at b 9)
  sound_of ten = sound_from (at b 0) (take 8 (drop 1 b)) (at b 9) (length-take 8 (drop 1 b) ∙ omega (arith, length-drop 1 b))

  pub made : {s : Shape} → shape_of_bytes b ≡ accepted s → Made b s
  made {s} e = go (eqb (length b) 10) refl e
    where
      go : (q : Bool) → eqb (length b) 10 ≡ q → cond q (new_shape (at b 0) (take 8 (drop 1 b)) (at b 9)) (refused ShapeRange) ≡ accepted s → Made b s
      go true q h =
          let ten = eqb-true (length b) 10 q in
          let row = row_passed (shape_sound (at b 0) (take 8 (drop 1 b)) (at b 9)) ShapeRange _ h in
          record { ten = ten; same = sym (accepted-same row.1); sound = sound_of ten ∙ row.0 }
      go false q h = refused-accepted h

  -- ten bytes are judged by the rows
  pub ten_lent : {A : Type 0} (rows : Shape → Verdict A) → length b ≡ 10 → lent b rows ≡ rows (lent_shape b)
  ten_lent rows e = ap (λ (q : Bool). cond q (rows (lent_shape b)) (refused ShapeRange)) (eq-eqb (length b) 10 e)

  pub made_lent : {A : Type 0} {s : Shape} (rows : Shape → Verdict A) → Made b s → rows s ≡ lent b rows
  made_lent rows m = ap rows m.same ∙ sym (ten_lent rows m.ten)

  unmade_by : (q sound : Bool) (x : Shape) (r : Refusal) → cond q (unless sound ShapeRange (accepted x)) (refused ShapeRange) ≡ refused r → (r ≡ ShapeRange) × (q ≡ true → sound ≡ false)
  unmade_by true true x r e = refused-accepted (sym e)
  unmade_by true false x r e = (refused-same (sym e), λ h. refl)
  unmade_by false sound x r e = (refused-same (sym e), λ h. absurd (passes h))

  module _ {r : Refusal} (e : shape_of_bytes b ≡ refused r) where
    abbrev unmade : (r ≡ ShapeRange) × (eqb (length b) 10 ≡ true → shape_sound (at b 0) (take 8 (drop 1 b)) (at b 9) ≡ false)
    unmade = unmade_by (eqb (length b) 10) (shape_sound (at b 0) (take 8 (drop 1 b)) (at b 9)) (lent_shape b) r e

    -- what is refused is unsound, if there are ten bytes
    pub unsound : eqb (length b) 10 ≡ true → is_sound (lent_shape b) ≡ false
    unsound q = sound_of (eqb-true (length b) 10 q) ∙ unmade.1 q

    lent_by : {A : Type 0} (rows : Shape → Verdict A) → FirstFour rows → (q : Bool) → eqb (length b) 10 ≡ q → cond q (rows (lent_shape b)) (refused ShapeRange) ≡ refused r
    lent_by rows f true q = f (lent_shape b) (unsound q) ∙ ap refused (sym unmade.0)
    lent_by rows f false q = ap refused (sym unmade.0)

    -- and so is the verdict
    pub lent-refused : {A : Type 0} (rows : Shape → Verdict A) → FirstFour rows → lent b rows ≡ refused r
    lent-refused rows f = lent_by rows f (eqb (length b) 10) refl

-- a call whose number is no refusal's was accepted
pub called : {A : Type 0} (v : Verdict A) (number : A → ℕ) → call_number v number < 65536 → (x : A) × (v ≡ accepted x)
called (accepted x) number h = (x, refl)
called (refused q) number h = absurd (omega arith)

pub lent-accepted : {A : Type 0} (bytes : List ℕ) (rows : Shape → Verdict A) {x : A} → lent bytes rows ≡ accepted x → (length bytes ≡ 10) × (rows (lent_shape bytes) ≡ accepted x)
lent-accepted bytes rows {x} e = go (eqb (length bytes) 10) refl e
  where
    go : (b : Bool) → eqb (length bytes) 10 ≡ b → cond b (rows (lent_shape bytes)) (refused ShapeRange) ≡ accepted x → (length bytes ≡ 10) × (rows (lent_shape bytes) ≡ accepted x)
    go true q h = (eqb-true (length bytes) 10 q, h)
    go false q h = refused-accepted h
