-- The struct `Shape` as the rules see it, and what the calls that make one promise.
use Rattle.std.specs.Prelude.{ℕ, ◌≡◌, Bool, cond, List, [], ◌∷◌, Result, eqb, length, take, drop}
use Rattle.rules.specs.declared.Refusal.{Refusal}
use Rattle.rules.specs.declared.Refusal.TheVariants.{ShapeRange}
use Rattle.rules.specs.Bytes.{at}
use Rattle.rules.specs.Shape.{places, shape_sound}
use Rattle.rules.specs.Verdict.{Verdict, accepted, refused, unless, result_of, says, answer_of}
use Rattle.shape.specs.declared.Shape.{Shape}

-- the eight bytes of cardinalities, and the places that they are
unfoldable pub cards_of : Shape → List ℕ
cards_of s = s.c0 ∷ s.c1 ∷ s.c2 ∷ s.c3 ∷ s.c4 ∷ s.c5 ∷ s.c6 ∷ s.c7 ∷ []

abbrev pub places_of : Shape → List ℕ
places_of s = places (cards_of s)

-- whether row 4 lets it pass
abbrev pub is_sound : Shape → Bool
is_sound s = shape_sound s.n (cards_of s) s.m

abbrev pub shape_from : ℕ → List ℕ → ℕ → Shape
shape_from n cards m =
    record {
      n = n;
      c0 = at cards 0;
      c1 = at cards 1;
      c2 = at cards 2;
      c3 = at cards 3;
      c4 = at cards 4;
      c5 = at cards 5;
      c6 = at cards 6;
      c7 = at cards 7;
      m = m;
    }

abbrev pub shape_bytes : Shape → List ℕ
shape_bytes s = s.n ∷ s.c0 ∷ s.c1 ∷ s.c2 ∷ s.c3 ∷ s.c4 ∷ s.c5 ∷ s.c6 ∷ s.c7 ∷ s.m ∷ []

-- row 4 of a shape's bytes
abbrev pub new_shape : ℕ → List ℕ → ℕ → Verdict Shape
new_shape n cards m = unless (shape_sound n cards m) ShapeRange (accepted (shape_from n cards m))

-- the ten bytes that C lends; any other length is refusal 4
abbrev pub shape_of_bytes : List ℕ → Verdict Shape
shape_of_bytes b = cond (eqb (length b) 10) (new_shape (at b 0) (take 8 (drop 1 b)) (at b 9)) (refused ShapeRange)

-- the promise of the calls that make a shape; in 01's numbers, a shape is its ten bytes
pub record Makes (v : Verdict Shape) (r : Result Shape Refusal) : Type 0 where
  pub answer : r ≡ result_of (λ s. s) v
  pub means : says shape_bytes r ≡ answer_of shape_bytes v
