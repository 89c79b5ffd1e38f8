-- A number's decimal digits: what they are, how many, and that `io::decimal` spells them.
use Prim.Native.Nat.{ℕ, zero, suc, ◌+◌, ◌-◌, ◌*◌, ◌/◌, ◌%◌, ◌^◌, ◌≤◌, ◌<◌}
use mathlib.Core.Path.{◌≡◌, refl, sym, ◌∙◌, ap, ap₂, subst}
use mathlib.Core.Bool.{Bool, cond}
use mathlib.Core.List.{List, [], ◌∷◌, ◌++◌}
use native.Mathlib.Nat.{not-suc-le-zero, pow-suc}
use native.Mathlib.Omega.{arith}
use borrow.Author.Tests.{lt-ltb, le-ltb}
use lib.ListN.{length, length-append}
use Rattle.io.specs.Digits.{last_digits, hex_digit_ascii, IsDigitCount}
use Rattle.rules.specs.Listing.{digit, digits_within, decimal}
use Rattle.laws.proofs.TestLaws.{by_order}

-- one digit; the digits of a tenth and one more
within-one : (f n : ℕ) → n < 10 → digits_within (suc f) n ≡ digit n ∷ []
within-one f n h = ap (λ (b : Bool). cond b (digit n ∷ []) (digits_within f (n / 10) ++ (digit (n % 10) ∷ []))) (lt-ltb n 10 h)

within_more : (f n : ℕ) → 10 ≤ n → digits_within (suc f) n ≡ digits_within f (n / 10) ++ (digit (n % 10) ∷ [])
within_more f n h = ap (λ (b : Bool). cond b (digit n ∷ []) (digits_within f (n / 10) ++ (digit (n % 10) ∷ []))) (le-ltb n 10 h)

-- more room changes nothing
within_enough : (f g n : ℕ) → n < f → n < g → digits_within f n ≡ digits_within g n
within_enough zero g n h k = absurd (not-suc-le-zero h)
within_enough (suc f) zero n h k = absurd (not-suc-le-zero k)
within_enough (suc f) (suc g) n h k =
    by_order 10 n
    (λ le. within_more f n le ∙ ap (λ (t : List ℕ). t ++ (digit (n % 10) ∷ [])) (within_enough f g (n / 10) (omega arith) (omega arith)) ∙ sym (within_more g n le))
    (λ lt. within-one f n lt ∙ sym (within-one g n lt))

-- the two equations that say what decimal digits are
pub decimal-one : (n : ℕ) → n < 10 → decimal n ≡ digit n ∷ []
decimal-one n h = within-one n n h

pub decimal-more : (n : ℕ) → 10 ≤ n → decimal n ≡ decimal (n / 10) ++ (digit (n % 10) ∷ [])
decimal-more n h = within_more n n h ∙ ap (λ (t : List ℕ). t ++ (digit (n % 10) ∷ [])) (within_enough n (suc (n / 10)) (n / 10) (omega arith) (omega arith))

-- how many there are
within-short : (d f n : ℕ) → n < 10 ^ suc d → length (digits_within f n) ≤ suc d
within-short d zero n h = omega arith
within-short zero (suc f) n h = let e = within-one f n h in omega (arith, ap length e)
within-short (suc d) (suc f) n h =
    by_order 10 n
    (λ le.
    let p = within-short d f (n / 10) (tenth (10 ^ suc d) n (rw pow-suc at h)) in
    let e = ap length (within_more f n le) ∙ length-append (digits_within f (n / 10)) (digit (n % 10) ∷ []) in
    omega arith)
    (λ lt. let e = ap length (within-one f n lt) in omega arith)
  where
    tenth : (p n : ℕ) → n < p * 10 → n / 10 < p
    tenth p n h = omega arith

pub decimal-short : (n : ℕ) → n < 65536 → length (decimal n) ≤ 5
decimal-short n h = within-short 4 (suc n) n (omega arith)

-- the fewest digits that hold a number are its decimal digits
glyph_digit : (d : ℕ) → d < 10 → hex_digit_ascii d ≡ digit d
glyph_digit d h = ap (λ (b : Bool). cond b (48 + d) (87 + d)) (lt-ltb d 10 h)

pub fewest_digits : (k f n : ℕ) → n < f → IsDigitCount 10 1 n k → last_digits 10 k n ≡ digits_within f n
fewest_digits k zero n h p = absurd (not-suc-le-zero h)
fewest_digits zero (suc f) n h p = absurd (not-suc-le-zero p.0)
fewest_digits (suc zero) (suc f) n h p =
    let lt : n < 10 = p.1 in
    let e : n % 10 ≡ n = omega arith in
    ap (λ (d : ℕ). hex_digit_ascii d ∷ []) e ∙ ap (λ (d : ℕ). d ∷ []) (glyph_digit n lt) ∙ sym (within-one f n lt)
fewest_digits (suc (suc k)) (suc f) n h p =
    let d : suc (suc k) - 1 ≡ suc k = omega arith in
    let q : 10 ^ k * 10 ≤ n = subst (λ (j : ℕ). j ≤ n) (pow-suc 10 k) (subst (λ (j : ℕ). 10 ^ j ≤ n) d (p.2 (omega arith))) in
    let e : suc k - 1 ≡ k = omega arith in
    let le : 10 ≤ n = ten (10 ^ k) n (positive k) q in
    ap₂ (λ (t : List ℕ) (d : ℕ). t ++ (d ∷ []))
    (fewest_digits (suc k) f (n / 10) (omega arith) (omega arith, below (10 ^ suc k) n (subst (λ (j : ℕ). n < j) (pow-suc 10 (suc k)) p.1), λ l. subst (λ (j : ℕ). 10 ^ j ≤ n / 10) (sym e) (above (10 ^ k) n q)))
    (glyph_digit (n % 10) (omega arith))
    ∙ sym (within_more f n le)
  where
    positive : (k : ℕ) → 1 ≤ 10 ^ k
    positive zero = omega arith
    positive (suc k) = let i = positive k in rw pow-suc (omega arith)

    ten : (p n : ℕ) → 1 ≤ p → p * 10 ≤ n → 10 ≤ n
    ten p n o h = omega arith

    below : (p n : ℕ) → n < p * 10 → n / 10 < p
    below p n h = omega arith

    above : (p n : ℕ) → p * 10 ≤ n → p ≤ n / 10
    above p n h = omega arith

length_digits : (b k n : ℕ) → length (last_digits b k n) ≡ k
length_digits b zero n = refl
length_digits b (suc k) n = length-append (last_digits b k (n / b)) (hex_digit_ascii (n % b) ∷ []) ∙ omega (arith, length_digits b k (n / b))

pub fewest-decimal : (k n : ℕ) → IsDigitCount 10 1 n k → last_digits 10 k n ≡ decimal n
fewest-decimal k n p = fewest_digits k (suc n) n (omega arith) p

pub few_digits : (k n : ℕ) → n < 65536 → IsDigitCount 10 1 n k → k ≤ 5
few_digits k n h p = omega (arith, length_digits 10 k n, ap length (fewest-decimal k n p), decimal-short n h)
