-- Cell numbers, place by place, and products of bytes.
use Prim.Native.Nat.{ℕ, zero, suc, ◌+◌, ◌*◌, ◌/◌, ◌%◌, ◌^◌, ◌≤◌, ◌<◌}
use mathlib.Core.Path.{◌≡◌, refl, sym, ◌∙◌, ap, ap₂}
use mathlib.Core.List.{List, [], ◌∷◌}
use native.Mathlib.Nat.{le_refl, add_assoc, mul-add, mul_assoc, mul-le-mul, pow-zero, pow-suc, pow-succ', pow-le-pow_right, div-one, div-div-eq-div-mul, mod-eq_of_lt, not-suc-le-zero, le_of_suc-le-suc}
use native.Mathlib.Numerals.{add-one}
use native.Mathlib.Omega.{arith}
use lib.Dec.{eqb}
use lib.ListN.{length, get_or, take, get_or-eq_default}
use lib.Pow.{shr-shr}
use Rattle.rules.specs.Bytes.{at}
use Rattle.rules.specs.Cell.{Positive, cells, card, step, value, number, cell, has}
use Rattle.laws.proofs.UnionLaws.{digit-below}
use Rattle.laws.proofs.CellLaws.{card_pos}
use Rattle.laws.proofs.LineLaws.{step-next}
use Rattle.laws.proofs.LoopLaws.{step_start, step_le, card_read, step-more}

-- one place more
pub number-next : (ks : List ℕ) (i : ℕ) (v : ℕ → ℕ) → i < length ks → number (take (suc i) ks) v ≡ number (take i ks) v + step ks i * v i
number-next [] i v h = absurd (not-suc-le-zero h)
number-next (k ∷ ks) zero v h = omega arith
number-next (k ∷ ks) (suc i) v h =
    ap (λ (x : ℕ). v 0 + k * x) (number-next ks i (λ j. v (suc j)) (le_of_suc-le-suc h))
    ∙ ap (λ (x : ℕ). v 0 + x) (mul-add k (number (take i ks) (λ j. v (suc j))) (step ks i * v (suc i)))
    ∙ sym (add_assoc (v 0) (k * number (take i ks) (λ j. v (suc j))) (k * (step ks i * v (suc i))))
    ∙ ap (λ (x : ℕ). v 0 + k * number (take i ks) (λ j. v (suc j)) + x) (sym (mul_assoc k (step ks i) (v (suc i))))

-- values below the cardinalities give a number below the step
pub number-take_lt : (ks : List ℕ) (i : ℕ) (v : ℕ → ℕ) → ((j : ℕ) → j < i → v j < card ks j) → number (take i ks) v < step ks i
number-take_lt [] zero v h = le_refl 1
number-take_lt [] (suc i) v h = le_refl 1
number-take_lt (k ∷ ks) zero v h = le_refl 1
number-take_lt (k ∷ ks) (suc i) v h = digit-below k _ _ _ (h 0 (omega arith)) (number-take_lt ks i (λ j. v (suc j)) (λ j l. h (suc j) (omega arith)))

pub number_lt : (ks : List ℕ) (v : ℕ → ℕ) → ((j : ℕ) → j < length ks → v j < card ks j) → number ks v < cells ks
number_lt [] v h = le_refl 1
number_lt (k ∷ ks) v h = digit-below k _ _ _ (h 0 (omega arith)) (number_lt ks (λ j. v (suc j)) (λ j l. h (suc j) (omega arith)))

-- the number of the values of a cell is the cell: each value is the one that was given
pub number-cell : (ks : List ℕ) (v : ℕ → ℕ) → ((j : ℕ) → j < length ks → v j < card ks j) → number ks v ≡ cell ks v
number-cell [] v h = refl
number-cell (k ∷ ks) v h =
    ap₂ (λ (a b : ℕ). a + k * b) (sym (mod-eq_of_lt (h 0 (omega arith)))) (number-cell ks (λ j. v (suc j)) (λ j l. h (suc j) (omega arith)))

-- a cardinality as an element of an array of eight
pub card-positive : (ks : List ℕ) (i : ℕ) → i < length ks → Positive ks → 0 < get_or ks i 0
card-positive ks i h p = rw (card_read ks i h) (card_pos ks i p)

-- past the last place
pub card_past : (ks : List ℕ) (i : ℕ) → length ks ≤ i → card ks i ≡ 1
card_past ks i h = get_or-eq_default ks 1 h

pub value_past : (ks : List ℕ) (c i : ℕ) → length ks ≤ i → value ks c i ≡ 0
value_past [] c i h = refl
value_past (k ∷ ks) c zero h = absurd (not-suc-le-zero h)
value_past (k ∷ ks) c (suc i) h = value_past ks _ i (le_of_suc-le-suc h)

-- one round of a loop that adds up a cell number
pub record NumberRound (ks : List ℕ) (v : ℕ → ℕ) (i cell stp : ℕ) : Type 0 where
  pub cell-is : cell + stp * v i ≡ number (take (i + 1) ks) v
  pub step_is : stp * get_or ks i 0 ≡ step ks (i + 1)
  pub cell-low : number (take (i + 1) ks) v < cells ks
  pub step-low : step ks (i + 1) ≤ cells ks

pub number_round : (ks : List ℕ) (v : ℕ → ℕ) (i cell stp : ℕ) → Positive ks → i < length ks → ((j : ℕ) → j < i + 1 → v j < card ks j)
    → cell ≡ number (take i ks) v → stp ≡ step ks i → NumberRound ks v i cell stp
number_round ks v i cell stp p h below ec es =
    record {
      cell-is = rw (ec, es, add-one i) (sym (number-next ks i v h));
      step_is = step-more ks i stp h es;
      cell-low = omega (arith, number-take_lt ks (i + 1) v below, step_le ks (i + 1) p);
      step-low = step_le ks (i + 1) p;
    }

-- a product of i bytes
pub step-bytes : (ks : List ℕ) (i : ℕ) → ((j : ℕ) → card ks j ≤ 255) → step ks i ≤ 255 ^ i
step-bytes ks zero h = rw (step_start ks, pow-zero 255) (le_refl 1)
step-bytes ks (suc i) h = rw (step-next ks i, pow-suc 255 i) (mul-le-mul (step-bytes ks i h) (h i))

card-byte : (ks : List ℕ) (i : ℕ) → ((j : ℕ) → at ks j < 256) → card ks i ≤ 255
card-byte [] i h = omega arith
card-byte (k ∷ ks) zero h = omega (arith, h 0)
card-byte (k ∷ ks) (suc i) h = card-byte ks i (λ j. h (suc j))

pub step_fits : (ks : List ℕ) (i : ℕ) → ((j : ℕ) → at ks j < 256) → i ≤ 8 → step ks i < 2 ^ 64
step_fits ks i h l = omega (arith, step-bytes ks i (λ j. card-byte ks j h), pow-le-pow_right {n = 255} (omega arith) l)

-- bit i of a set, by division
pub has-bit : (s i : ℕ) → has s i ≡ eqb (s / 2 ^ i % 2) 1
has-bit s zero = ap (λ (x : ℕ). eqb (x % 2) 1) (sym (div-one s))
has-bit s (suc i) = has-bit (s / 2) i ∙ ap (λ (x : ℕ). eqb (x % 2) 1) (div-div-eq-div-mul s 2 (2 ^ i) ∙ ap (λ (x : ℕ). s / x) (sym (pow-succ' 2 i)))

-- the bits from k on
pub has_from : (k d s : ℕ) → has s (k + d) ≡ has (s / 2 ^ k) d
has_from k d s = has-bit s (k + d) ∙ ap (λ (x : ℕ). eqb (x % 2) 1) (sym (shr-shr s k d)) ∙ sym (has-bit (s / 2 ^ k) d)
