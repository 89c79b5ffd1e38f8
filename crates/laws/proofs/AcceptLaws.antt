-- What rows 4 and 5 let pass is a table in the sense of the demands.
use Prim.Native.Nat.{ℕ, zero, suc, ◌≤◌, ◌<◌, max}
use mathlib.Core.Path.{◌≡◌, refl, ap}
use mathlib.Core.Bool.{Bool, ◌&&◌}
use mathlib.Core.List.{List, [], ◌∷◌}
use native.Mathlib.Nat.{not-suc-le-zero, le_of_suc-le-suc}
use native.Mathlib.Omega.{arith}
use lib.Dec.{T, eqb→eq, leb, leb→le, ltb, ltb→lt}
use lib.ListN.{length}
use Rattle.rules.specs.Bytes.{at, all}
use Rattle.rules.specs.Cell.{Positive, cells, card}
use Rattle.rules.specs.Shape.{max_conditions, max_grades, max_cells, place_sound, places, shape_sound}
use Rattle.rules.specs.Limits.{Limits, limits_sound}
use Rattle.rules.specs.Demands.{Table}
use Rattle.laws.proofs.TestLaws.{and_l, and_r, cond_ok, by_order}
use Rattle.laws.proofs.TableLaws.{all-at}

-- places
pub places-positive : (cards : List ℕ) → Positive (places cards)
places-positive [] = tt
places-positive (k ∷ ks) = (omega arith, places-positive ks)

pub length-places : (cards : List ℕ) → length (places cards) ≡ length cards
length-places [] = refl
length-places (k ∷ ks) = ap suc (length-places ks)

pub places-card : (cards : List ℕ) (i : ℕ) → card (places cards) i ≡ max 1 (at cards i)
places-card [] i = refl
places-card (k ∷ ks) zero = refl
places-card (k ∷ ks) (suc i) = places-card ks i

at_past : (cards : List ℕ) (i : ℕ) → length cards ≤ i → at cards i ≡ 0
at_past [] i h = refl
at_past (k ∷ ks) zero h = absurd (not-suc-le-zero h)
at_past (k ∷ ks) (suc i) h = at_past ks i (le_of_suc-le-suc h)

place-small : (n i k : ℕ) → T (place_sound n i k) → k ≤ 8
place-small n i k = cond_ok (λ (b : Bool). T b → k ≤ 8) (ltb i n) _ _ (λ q h. leb→le k 8 (and_r (leb 2 k) (leb k 8) h)) (λ q h. omega (arith, eqb→eq k 0 h))

module _ (n : ℕ) (cards : List ℕ) (m : ℕ) (eight : length cards ≡ 8) (h : T (shape_sound n cards m)) where
  -- the parts of `shape_sound`
  rest : T (all 8 (λ i. place_sound n i (at cards i)) && ((leb 2 m && leb m max_grades) && leb (cells (places cards)) max_cells))
  rest = and_r (leb n max_conditions) _ h

  last : T ((leb 2 m && leb m max_grades) && leb (cells (places cards)) max_cells)
  last = and_r (all 8 (λ i. place_sound n i (at cards i))) _ rest

  grades : T (leb 2 m && leb m max_grades)
  grades = and_l (leb 2 m && leb m max_grades) (leb (cells (places cards)) max_cells) last

  each-place : T (all 8 (λ i. place_sound n i (at cards i)))
  each-place = and_l (all 8 (λ i. place_sound n i (at cards i))) ((leb 2 m && leb m max_grades) && leb (cells (places cards)) max_cells) rest

  pub few-values : (i : ℕ) → card (places cards) i ≤ 8
  few-values i =
      by_order 8 i (λ le. omega (arith, places-card cards i, at_past cards i (omega arith)))
      (λ lt. omega (arith, places-card cards i, place-small n i (at cards i) (all-at 8 (λ i. place_sound n i (at cards i)) each-place i lt)))

  pub few-cells : cells (places cards) ≤ max_cells
  few-cells = leb→le (cells (places cards)) max_cells (and_r (leb 2 m && leb m max_grades) (leb (cells (places cards)) max_cells) last)

  pub two-grades : 2 ≤ m
  two-grades = leb→le 2 m (and_l (leb 2 m) (leb m max_grades) grades)

  pub few-grades : m ≤ max_grades
  few-grades = leb→le m max_grades (and_r (leb 2 m) (leb m max_grades) grades)

  pub accepted-table : (l : Limits) → T (limits_sound (places cards) m l) → Table (places cards) m l
  accepted-table l w =
      record {
        positive = places-positive cards;
        few-conditions = omega (arith, length-places cards);
        few-values = few-values;
        few-cells = few-cells;
        grades = two-grades;
        few-grades = few-grades;
        ordered = λ c hc. leb→le _ _ (and_l (low c) (high c) (both c hc));
        top = λ c hc. omega (arith, ltb→lt (at l.upper c) m (and_r (low c) (high c) (both c hc)));
      }
    where
      low : ℕ → Bool
      low c = leb (at l.lower c) (at l.upper c)

      high : ℕ → Bool
      high c = ltb (at l.upper c) m

      both : (c : ℕ) → c < cells (places cards) → T (low c && high c)
      both c hc = all-at (cells (places cards)) (λ c. low c && high c) w c hc
