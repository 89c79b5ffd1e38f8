-- Sets of conditions.
use Prim.Native.Nat.{ℕ, zero, suc, ◌/◌, ◌%◌, ◌^◌, ◌<◌}
use mathlib.Core.Path.{◌≡◌, refl, sym, ◌∙◌, ap, subst}
use mathlib.Core.Bool.{Bool, true, false, not, ◌&&◌, ◌||◌}
use mathlib.Core.List.{List, [], ◌∷◌}
use mathlib.Core.Logic.{◌⊎◌, inl, inr, ⊎_elim}
use native.Mathlib.Nat.{le_refl, mod-lt}
use native.Mathlib.Omega.{arith}
use lib.Bits.{bit_and, bit_or, and_shr, and_mod, or_shr, or_mod}
use lib.Dec.{T, eqb}
use Rattle.rules.specs.Bytes.{pick}
use Rattle.rules.specs.Cell.{has, insert, singleton}
use Rattle.rules.specs.Demands.{Subset}
use Rattle.laws.proofs.OverLaws.{subset}
use Rattle.laws.proofs.TestLaws.{and_i}
use Rattle.laws.proofs.UnionLaws.{digit_mod, digit_div}

-- bits
pub has_same : (s i : ℕ) → T (has (insert s i) i)
has_same s zero = rw (digit_mod 2 1 (s / 2) (le_refl 2)) tt
has_same s (suc i) = rw (digit_div 2 (s % 2) (insert (s / 2) i) (mod-lt s (omega arith))) (has_same (s / 2) i)

pub has_keep : (s i : ℕ) → Subset s (insert s i)
has_keep s zero zero h = rw (digit_mod 2 1 (s / 2) (le_refl 2)) tt
has_keep s zero (suc j) h = rw (digit_div 2 1 (s / 2) (le_refl 2)) h
has_keep s (suc i) zero h = rw (digit_mod 2 (s % 2) (insert (s / 2) i) (mod-lt s (omega arith))) h
has_keep s (suc i) (suc j) h = rw (digit_div 2 (s % 2) (insert (s / 2) i) (mod-lt s (omega arith))) (has_keep (s / 2) i j h)

pub insert-has : (s i j : ℕ) → T (has (insert s i) j) → (j ≡ i) ⊎ T (has s j)
insert-has s zero zero h = inl refl
insert-has s zero (suc j) h = inr (rw (digit_div 2 1 (s / 2) (le_refl 2)) at h)
insert-has s (suc i) zero h = inr (rw (digit_mod 2 (s % 2) (insert (s / 2) i) (mod-lt s (omega arith))) at h)
insert-has s (suc i) (suc j) h =
    ⊎_elim (λ e. inl (ap suc e)) (λ r. inr r) (insert-has (s / 2) i j (rw (digit_div 2 (s % 2) (insert (s / 2) i) (mod-lt s (omega arith))) at h))

pub has-none : (j : ℕ) → T (has 0 j) → ⊥
has-none zero h = h
has-none (suc j) h = has-none j h

-- an operation on the digits of two numbers is one on the tests for them
module _ (op : ℕ → ℕ → ℕ) (f : Bool → Bool → Bool) (shr : (a b k : ℕ) → op a b / 2 ^ k ≡ op (a / 2 ^ k) (b / 2 ^ k))
    (cut : (a b k : ℕ) → op a b % 2 ^ k ≡ op (a % 2 ^ k) (b % 2 ^ k)) (digit : (x y : Bool) → eqb (op (pick x 1 0) (pick y 1 0)) 1 ≡ f x y) where
  digits : (x y : ℕ) → x < 2 → y < 2 → eqb (op x y) 1 ≡ f (eqb x 1) (eqb y 1)
  digits zero zero h g = digit false false
  digits zero (suc zero) h g = digit false true
  digits zero (suc (suc y)) h g = absurd (omega arith)
  digits (suc zero) zero h g = digit true false
  digits (suc zero) (suc zero) h g = digit true true
  digits (suc zero) (suc (suc y)) h g = absurd (omega arith)
  digits (suc (suc x)) y h g = absurd (omega arith)

  has_digits : (a b j : ℕ) → has (op a b) j ≡ f (has a j) (has b j)
  has_digits a b zero = ap (λ (x : ℕ). eqb x 1) (cut a b 1) ∙ digits (a % 2) (b % 2) (mod-lt a (omega arith)) (mod-lt b (omega arith))
  has_digits a b (suc j) = ap (λ (x : ℕ). has x j) (shr a b 1) ∙ has_digits (a / 2) (b / 2) j

-- a union has what either set has
pub has-or : (a b j : ℕ) → has (bit_or a b) j ≡ has a j || has b j
has-or = has_digits bit_or ◌||◌ or_shr or_mod digit
  where
    digit : (x y : Bool) → eqb (bit_or (pick x 1 0) (pick y 1 0)) 1 ≡ x || y
    digit true true = refl
    digit true false = refl
    digit false true = refl
    digit false false = refl

-- and an intersection what both have
pub has-and : (a b j : ℕ) → has (bit_and a b) j ≡ has a j && has b j
has-and = has_digits bit_and ◌&&◌ and_shr and_mod digit
  where
    digit : (x y : Bool) → eqb (bit_and (pick x 1 0) (pick y 1 0)) 1 ≡ x && y
    digit true true = refl
    digit true false = refl
    digit false y = refl

-- s with i is part of what has i and all of s
pub insert-part : (s i u : ℕ) → Subset s u → T (has u i) → Subset (insert s i) u
insert-part s i u p h j a = ⊎_elim (λ e. subst (λ (x : ℕ). T (has u x)) (sym e) h) (λ r. p j r) (insert-has s i j a)

pub singleton-part : (i u : ℕ) → T (has u i) → Subset (singleton i) u
singleton-part i u h = insert-part 0 i u (λ j n. absurd (has-none j n)) h

pub singleton-has : (i j : ℕ) → T (has (singleton i) j) → j ≡ i
singleton-has i j h = ⊎_elim (λ e. e) (λ n. absurd (has-none j n)) (insert-has 0 i j h)

-- the same, as a test
pub part_of : (ks : List ℕ) (s t : ℕ) → Subset s t → T (subset ks s t)
part_of [] s t p = tt
part_of (k ∷ ks) s t p =
    and_i (not (eqb (s % 2) 1) || eqb (t % 2) 1) (subset ks (s / 2) (t / 2)) (go (eqb (s % 2) 1) (eqb (t % 2) 1) (p 0)) (part_of ks (s / 2) (t / 2) (λ i. p (suc i)))
  where
    go : (a b : Bool) → (T a → T b) → T (not a || b)
    go true b f = f tt
    go false b f = tt
