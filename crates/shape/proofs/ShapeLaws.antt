-- A shape's places: eight, none of cardinality 0.
use Prim.Native.Nat.{ℕ, ◌+◌, ◌≤◌}
use mathlib.Core.Path.{◌≡◌, refl, sym, ◌∙◌, ap, subst}
use mathlib.Core.Bool.{Bool, true, false, cond, ◌&&◌}
use borrow.Author.Tests.{eq-eqb, ne_eqb}
use mathlib.Core.List.{List, [], ◌∷◌}
use native.Mathlib.Omega.{arith}
use lib.Dec.{leb}
use lib.ListN.{length, take, drop, length-take, length-drop}
use lib.Seq.{get_or-take, get_or-drop}
use Rattle.rules.specs.declared.Refusal.{Refusal}
use Rattle.rules.specs.declared.Refusal.TheVariants.{ShapeRange}
use Rattle.rules.specs.Bytes.{at, all, tabulate}
use Rattle.rules.specs.Cell.{Positive, cells, card}
use Rattle.rules.specs.Shape.{max_conditions, max_grades, max_cells, place_sound, shape_sound}
use Rattle.std.specs.Prelude.{Result, Ok, Err}
use Rattle.rules.specs.Verdict.{Verdict, accepted, refused, result_of, answer_of}
use Rattle.laws.proofs.VerdictLaws.{row_pass, row_stop, result-says, was_ok, was_err}
use Rattle.laws.proofs.TableLaws.{tabulate_self, tabulate-same}
use Rattle.laws.proofs.AcceptLaws.{places-positive, length-places, few-values, few-cells, two-grades, few-grades}
use Rattle.std.specs.List.{list_all, enumerate_from}
use Rattle.laws.proofs.ChainLaws.{numbered-all}
use Rattle.laws.proofs.TestLaws.{passes}
use Rattle.shape.specs.declared.Shape.{Shape}
use Rattle.shape.specs.Shapes.{cards_of, places_of, is_sound, shape_from, shape_bytes, new_shape, shape_of_bytes, Makes}

pub eight-cards : (s : Shape) → length (cards_of s) ≡ 8
unfolding cards_of
eight-cards s = refl

-- eight bytes, one by one
eight_list : (l : List ℕ) → length l ≡ 8 → tabulate 8 (at l) ≡ l
eight_list l e = subst (λ (n : ℕ). tabulate n (at l) ≡ l) e (tabulate_self (at l) l (λ v h. refl))

pub cards_from : (n : ℕ) (l : List ℕ) (m : ℕ) → length l ≡ 8 → cards_of (shape_from n l m) ≡ l
unfolding cards_of
cards_from n l m e = eight_list l e

pub from_cards : (s : Shape) → shape_from s.n (cards_of s) s.m ≡ s
unfolding cards_of
from_cards s = refl

pub sound_from : (n : ℕ) (l : List ℕ) (m : ℕ) → length l ≡ 8 → is_sound (shape_from n l m) ≡ shape_sound n l m
sound_from n l m e = ap (λ (cards : List ℕ). shape_sound n cards m) (cards_from n l m e)

-- the cardinalities among ten bytes
pub middle : (b : List ℕ) → length b ≡ 10 → at b 1 ∷ at b 2 ∷ at b 3 ∷ at b 4 ∷ at b 5 ∷ at b 6 ∷ at b 7 ∷ at b 8 ∷ [] ≡ take 8 (drop 1 b)
middle b e =
    tabulate-same 8 (λ i. at b (1 + i)) (at (take 8 (drop 1 b))) (λ i h. sym (get_or-take 8 (drop 1 b) i 0 h ∙ get_or-drop 1 b i 0))
    ∙ eight_list (take 8 (drop 1 b)) (length-take 8 (drop 1 b) ∙ omega (arith, length-drop 1 b))

pub eight-places : (s : Shape) → length (places_of s) ≡ 8
eight-places s = length-places (cards_of s) ∙ eight-cards s

pub shape-positive : (s : Shape) → Positive (places_of s)
shape-positive s = places-positive (cards_of s)

-- a shape that row 4 lets pass
pub record Sound (s : Shape) : Type 0 where
  pub values-few : (i : ℕ) → card (places_of s) i ≤ 8
  pub cells-few : cells (places_of s) ≤ 1024
  pub grades-two : 2 ≤ s.m
  pub grades-few : s.m ≤ 16

pub sound-shape : (s : Shape) → is_sound s ≡ true → Sound s
sound-shape s e =
    let h = passes e in
    record {
      values-few = few-values s.n (cards_of s) s.m (eight-cards s) h;
      cells-few = few-cells s.n (cards_of s) s.m (eight-cards s) h;
      grades-two = two-grades s.n (cards_of s) s.m (eight-cards s) h;
      grades-few = few-grades s.n (cards_of s) s.m (eight-cards s) h;
    }

-- the test of a shape's cardinalities, each with its number
pub cards_pass : (s : Shape) {l : List ℕ} → l ≡ cards_of s → list_all (λ (ic : ℕ × ℕ). place_sound s.n ic.0 ic.1) (enumerate_from 0 l) ≡ all 8 (λ i. place_sound s.n i (at (cards_of s) i))
unfolding cards_of
cards_pass s e = ap (λ (l : List ℕ). list_all (λ (ic : ℕ × ℕ). place_sound s.n ic.0 ic.1) (enumerate_from 0 l)) e ∙ numbered-all (place_sound s.n) 0 (cards_of s)

-- the promise of a call that makes a shape, by its verdict
pub makes_as : (v w : Verdict Shape) → v ≡ w → Makes v (result_of (λ s. s) w)
makes_as v w e = record { answer = ap (result_of (λ s. s)) (sym e); means = result-says (λ s. s) shape_bytes w ∙ ap (answer_of shape_bytes) (sym e) }

-- and the verdict behind its answer
pub makes_ok : {v : Verdict Shape} {r : Result Shape Refusal} {s : Shape} → Makes v r → r ≡ Ok s → v ≡ accepted s
makes_ok {v} k e = let (x, h) = was_ok (λ s. s) v (sym e ∙ k.answer) in cc

pub makes_err : {v : Verdict Shape} {r : Result Shape Refusal} {q : Refusal} → Makes v r → r ≡ Err q → v ≡ refused q
makes_err {v} k e = was_err (λ s. s) v (sym e ∙ k.answer)

-- the two ways of `new`
module _ (n : ℕ) (l : List ℕ) (m : ℕ) (eight : length l ≡ 8) where
  pub new_sound : is_sound (shape_from n l m) ≡ true → new_shape n l m ≡ accepted (shape_from n l m)
  new_sound e = row_pass ShapeRange (accepted (shape_from n l m)) (sym (sound_from n l m eight) ∙ e)

  pub new_unsound : is_sound (shape_from n l m) ≡ false → new_shape n l m ≡ refused ShapeRange
  new_unsound e = row_stop ShapeRange (accepted (shape_from n l m)) (sym (sound_from n l m eight) ∙ e)

-- and those of `from_bytes`
pub bytes-other : (b : List ℕ) → (length b ≡ 10 → ⊥) → shape_of_bytes b ≡ refused ShapeRange
bytes-other b n = ap (λ (q : Bool). cond q (new_shape (at b 0) (take 8 (drop 1 b)) (at b 9)) (refused ShapeRange)) (ne_eqb (length b) 10 n)

pub bytes_ten : (b : List ℕ) → length b ≡ 10 → shape_of_bytes b ≡ new_shape (at b 0) (at b 1 ∷ at b 2 ∷ at b 3 ∷ at b 4 ∷ at b 5 ∷ at b 6 ∷ at b 7 ∷ at b 8 ∷ []) (at b 9)
bytes_ten b e =
    ap (λ (q : Bool). cond q (new_shape (at b 0) (take 8 (drop 1 b)) (at b 9)) (refused ShapeRange)) (eq-eqb (length b) 10 e)
    ∙ ap (λ (l : List ℕ). new_shape (at b 0) l (at b 9)) (sym (middle b e))
