-- Counts of zero bits, and shifts, as grades of a set.
use Prim.Native.Nat.{ℕ, zero, suc, ◌+◌, ◌-◌, ◌*◌, ◌/◌, ◌%◌, ◌^◌, ◌≤◌, ◌<◌}
use mathlib.Core.Path.{◌≡◌, refl, ◌∙◌, ap}
use mathlib.Core.Bool.{Bool, not, ◌&&◌}
use native.Mathlib.Nat.{not-suc-le-zero, le_of_suc-le-suc, pow-suc}
use native.Mathlib.Omega.{arith}
use lib.Pow.{pow_mono, pow_pos}
use lib.Count.{count_trailing_zeros, under}
use borrow.Author.Tests.{ne_eqb}
use lib.Dec.{eqb, ltb}
use Rattle.rules.specs.Bytes.{pick}
use Rattle.rules.specs.Cell.{has}
use Rattle.rules.specs.GradeSet.{span, least_to, greatest_to, least_grade, greatest_grade, set_sound}

-- the zeros below the lowest member
under-pick : (d t : ℕ) → d < 2 → under d t ≡ pick (eqb d 1) 0 (suc t)
under-pick zero t h = refl
under-pick (suc zero) t h = refl
under-pick (suc (suc d)) t h = absurd (omega arith)

pub trailing_least : (n s : ℕ) → count_trailing_zeros n s ≡ least_to n s
unfolding count_trailing_zeros
trailing_least zero s = refl
trailing_least (suc n) s = under-pick (s % 2) (count_trailing_zeros n (s / 2)) (omega arith) ∙ ap (λ (t : ℕ). pick (has s 0) 0 (suc t)) (trailing_least n (s / 2))

-- the highest, by the power of two that a set reaches
pub greatest-log : (n s k : ℕ) → s < 2 ^ n → 2 ^ k ≤ s → s < 2 * 2 ^ k → greatest_to n s ≡ k
greatest-log zero s k h lo hi = absurd (omega (arith, pow_pos k))
greatest-log (suc n) s zero h lo hi = let one : s ≡ 1 = omega arith in rw one refl
greatest-log (suc n) s (suc k) h lo hi =
    let p = pow_pos k in
    let u = pow-suc 2 k in
    let v = pow-suc 2 n in
    let some : s / 2 ≡ 0 → ⊥ = λ z. omega arith in
    rw (ne_eqb (s / 2) 0 some) (ap suc (greatest-log n (s / 2) k (omega arith) (omega arith) (omega arith)))

-- the grades from l to u are all up to u but those below l
pub span_powers : (l u : ℕ) → l ≤ u → span l u + 2 ^ l ≡ 2 ^ suc u
span_powers zero zero h = refl
span_powers zero (suc u) h = rw (pow-suc 2 (suc u)) (omega (arith, span_powers zero u (omega arith)))
span_powers (suc l) zero h = absurd (not-suc-le-zero h)
span_powers (suc l) (suc u) h = rw (pow-suc 2 l, pow-suc 2 (suc u)) (omega (arith, span_powers l u (le_of_suc-le-suc h)))

-- the same by shifts, which lose nothing: thirty-two bits hold both powers
module _ (l u : ℕ) (h : l ≤ u) (few : u < 16) where
  power : 2 ^ u ≤ 32768
  power = pow_mono (le_of_suc-le-suc few)

  high : (2 * 2 ^ u) % 4294967296 ≡ 2 * 2 ^ u
  high = omega (arith, power)

  low : (1 * 2 ^ l) % 4294967296 ≡ 2 ^ l
  low = omega (arith, power, pow_mono h)

  pub shift_below : (1 * 2 ^ l) % 4294967296 ≤ (2 * 2 ^ u) % 4294967296
  shift_below = omega (arith, high, low, pow_mono h)

  pub span_shift : (2 * 2 ^ u) % 4294967296 - (1 * 2 ^ l) % 4294967296 ≡ span l u
  span_shift = omega (arith, high, low, span_powers l u h, pow-suc 2 u)

-- whether a set is sound, test by test
pub sound_by : (m s : ℕ) (a b c : Bool) → eqb s 0 ≡ a → eqb s (span (least_grade s) (greatest_grade s)) ≡ b → ltb (greatest_grade s) m ≡ c → set_sound m s ≡ (not a && (b && c))
sound_by m s a b c p q r = cc
