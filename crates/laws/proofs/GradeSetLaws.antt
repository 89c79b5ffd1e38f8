-- The set of the grades from one to another, and sets that are one.
use Prim.Native.Nat.{ℕ, zero, suc, ◌+◌, ◌*◌, ◌/◌, ◌%◌, ◌^◌, ◌≤◌, ◌<◌}
use mathlib.Core.Path.{◌≡◌, refl, sym, ◌∙◌, ap, subst}
use mathlib.Core.Bool.{Bool, true, false, not, ◌&&◌}
use mathlib.Core.Logic.{◌↔◌}
use native.Mathlib.Nat.{le_refl, le_of_suc-le-suc, not-suc-le-zero, pow-suc}
use native.Mathlib.Omega.{arith}
use borrow.Author.Tests.{ne_eqb}
use lib.Dec.{T, T_not, eqb, eqb→eq, eqb_refl, leb, leb→le, le→leb, ltb, ltb→lt, lt→ltb, leb-zero, leb-suc-zero, leb-suc-suc}
use Rattle.rules.specs.Cell.{has}
use Rattle.rules.specs.GradeSet.{span, least_to, greatest_to, least_grade, greatest_grade, set_sound, Gapless}
use Rattle.laws.proofs.TestLaws.{and_l, and_r, and_i, same_test, pick_ok, by_order}

-- a set of twice a number has the grades one higher
even_mod : (x : ℕ) → (2 * x) % 2 ≡ 0
even_mod x = omega arith

even_div : (x : ℕ) → (2 * x) / 2 ≡ x
even_div x = omega arith

odd_mod : (x : ℕ) → (1 + 2 * x) % 2 ≡ 1
odd_mod x = omega arith

odd_div : (x : ℕ) → (1 + 2 * x) / 2 ≡ x
odd_div x = omega arith

has-zero : (g : ℕ) → has 0 g ≡ false
has-zero zero = refl
has-zero (suc g) = has-zero g

and_false : (b : Bool) → b && false ≡ false
and_false true = refl
and_false false = refl

-- the grades from l to u, and no other
pub span-has : (l u g : ℕ) → has (span l u) g ≡ (leb l g && leb g u)
span-has zero zero zero = refl
span-has zero zero (suc g) = rw (leb-zero (suc g), leb-suc-zero g) (has-zero g)
span-has zero (suc u) zero = rw (odd_mod (span zero u), leb-zero (suc u)) refl
span-has zero (suc u) (suc g) = rw (odd_div (span zero u), leb-zero (suc g), leb-suc-suc g u) (span-has zero u g ∙ rw (leb-zero g) refl)
span-has (suc l) zero zero = rw (leb-suc-zero l) refl
span-has (suc l) zero (suc g) = rw (leb-suc-zero g, and_false (leb (suc l) (suc g))) (has-zero g)
span-has (suc l) (suc u) zero = rw (even_mod (span l u), leb-suc-zero l) refl
span-has (suc l) (suc u) (suc g) = rw (even_div (span l u), leb-suc-suc l g, leb-suc-suc g u) (span-has l u g)

pub span-some : (l u : ℕ) → l ≤ u → 0 < span l u
span-some zero zero h = le_refl 1
span-some zero (suc u) h = omega arith
span-some (suc l) zero h = absurd (not-suc-le-zero h)
span-some (suc l) (suc u) h = omega (arith, span-some l u (le_of_suc-le-suc h))

span_none : (l u : ℕ) → u < l → span l u ≡ 0
span_none zero u h = absurd (not-suc-le-zero h)
span_none (suc l) zero h = refl
span_none (suc l) (suc u) h = omega (arith, span_none l u (le_of_suc-le-suc h))

pow_some : (n : ℕ) → 0 < 2 ^ n
pow_some zero = le_refl 1
pow_some (suc n) = rw (pow-suc 2 n) (omega (arith, pow_some n))

pub span_below : (l u n : ℕ) → u < n → span l u < 2 ^ n
span_below l u zero h = absurd (not-suc-le-zero h)
span_below zero zero (suc n) h = rw (pow-suc 2 n) (omega (arith, pow_some n))
span_below zero (suc u) (suc n) h = rw (pow-suc 2 n) (omega (arith, span_below zero u n (le_of_suc-le-suc h)))
span_below (suc l) zero (suc n) h = pow_some (suc n)
span_below (suc l) (suc u) (suc n) h = rw (pow-suc 2 n) (omega (arith, span_below l u n (le_of_suc-le-suc h)))

-- its least and its greatest grade
least-span : (n l u : ℕ) → l ≤ u → u < n → least_to n (span l u) ≡ l
least-span zero l u h g = absurd (not-suc-le-zero g)
least-span (suc n) zero zero h g = refl
least-span (suc n) zero (suc u) h g = rw (odd_mod (span zero u)) refl
least-span (suc n) (suc l) zero h g = absurd (not-suc-le-zero h)
least-span (suc n) (suc l) (suc u) h g =
    rw (even_mod (span l u), even_div (span l u)) (ap suc (least-span n l u (le_of_suc-le-suc h) (le_of_suc-le-suc g)))

greatest-span : (n l u : ℕ) → l ≤ u → u < n → greatest_to n (span l u) ≡ u
greatest-span zero l u h g = absurd (not-suc-le-zero g)
greatest-span (suc n) zero zero h g = refl
greatest-span (suc n) zero (suc u) h g =
    rw (odd_div (span zero u), ne_eqb (span zero u) 0 (λ e. omega (arith, span-some zero u (omega arith)))) (ap suc (greatest-span n zero u (omega arith) (le_of_suc-le-suc g)))
greatest-span (suc n) (suc l) zero h g = absurd (not-suc-le-zero h)
greatest-span (suc n) (suc l) (suc u) h g =
    rw (even_div (span l u), ne_eqb (span l u) 0 (λ e. omega (arith, span-some l u (le_of_suc-le-suc h)))) (ap suc (greatest-span n l u (le_of_suc-le-suc h) (le_of_suc-le-suc g)))

pub span-least : (l u : ℕ) → l ≤ u → u < 16 → least_grade (span l u) ≡ l
span-least = least-span 16

pub span-greatest : (l u : ℕ) → l ≤ u → u < 16 → greatest_grade (span l u) ≡ u
span-greatest = greatest-span 16

-- what 13 lets pass is such a set
pub record Spans (m s : ℕ) : Type 0 where
  pub ordered : least_grade s ≤ greatest_grade s
  pub below : greatest_grade s < m
  pub is : s ≡ span (least_grade s) (greatest_grade s)

pub sound_spans : (m s : ℕ) → T (set_sound m s) → Spans m s
sound_spans m s h =
    let l : ℕ = least_grade s in
    let u : ℕ = greatest_grade s in
    let rest : T (eqb s (span l u) && ltb u m) = and_r (not (eqb s 0)) (eqb s (span l u) && ltb u m) h in
    let is : s ≡ span l u = eqb→eq s (span l u) (and_l (eqb s (span l u)) (ltb u m) rest) in
    let some : T (not (eqb s 0)) = and_l (not (eqb s 0)) (eqb s (span l u) && ltb u m) h in
    record {
      ordered = by_order l u (λ le. le)
          (λ lt.
          let z : s ≡ 0 = is ∙ span_none l u lt in
          absurd (T_not (eqb s 0) some (subst (λ (x : ℕ). T (eqb s x)) z (eqb_refl s))));
      below = ltb→lt u m (and_r (eqb s (span l u)) (ltb u m) rest);
      is = is;
    }

pub span-sound : (m l u : ℕ) → l ≤ u → u < m → m ≤ 16 → T (set_sound m (span l u))
span-sound m l u h g k =
    let s : ℕ = span l u in
    rw (span-least l u h (omega arith), span-greatest l u h (omega arith))
    (and_i (not (eqb s 0)) (eqb s s && ltb u m) (rw (ne_eqb s 0 (λ e. omega (arith, span-some l u h))) tt)
    (and_i (eqb s s) (ltb u m) (eqb_refl s) (lt→ltb u m g)))

-- 13 in words
bit-same : (a b : ℕ) → a < 2 → b < 2 → eqb a 1 ≡ eqb b 1 → a ≡ b
bit-same zero zero h g e = refl
bit-same zero (suc zero) h g e = let z : ◌≡◌ {A = ℕ} 0 1 = cc in absurd (omega arith)
bit-same (suc zero) zero h g e = let z : ◌≡◌ {A = ℕ} 0 1 = cc in absurd (omega arith)
bit-same (suc zero) (suc zero) h g e = refl
bit-same zero (suc (suc b)) h g e = absurd (omega arith)
bit-same (suc zero) (suc (suc b)) h g e = absurd (omega arith)
bit-same (suc (suc a)) b h g e = absurd (omega arith)

-- a set is known by its members
same-members : (n s t : ℕ) → s < 2 ^ n → t < 2 ^ n → ((g : ℕ) → has s g ≡ has t g) → s ≡ t
same-members zero s t h g e = omega arith
same-members (suc n) s t h g e =
    let p : 2 ^ suc n ≡ 2 ^ n * 2 = pow-suc 2 n in
    let low : s % 2 ≡ t % 2 = bit-same (s % 2) (t % 2) (omega arith) (omega arith) (e 0) in
    let high : s / 2 ≡ t / 2 = same-members n (s / 2) (t / 2) (omega arith) (omega arith) (λ i. e (suc i)) in
    omega arith

no_member : (g : ℕ) → T (has 0 g) → ⊥
no_member g h = subst T (has-zero g) h

none_past : (n s g : ℕ) → s < 2 ^ n → n ≤ g → T (has s g) → ⊥
none_past zero s g h l y = let z : s ≡ 0 = omega arith in no_member g (subst (λ (x : ℕ). T (has x g)) z y)
none_past (suc n) s zero h l y = not-suc-le-zero l
none_past (suc n) s (suc g) h l y = let p : 2 ^ suc n ≡ 2 ^ n * 2 = pow-suc 2 n in none_past n (s / 2) g (omega arith) (le_of_suc-le-suc l) y

least-member : (n s g : ℕ) → T (has s g) → g < n → T (has s (least_to n s)) × (least_to n s ≤ g)
least-member zero s g h l = absurd (not-suc-le-zero l)
least-member (suc n) s zero h l = pick_ok (λ (x : ℕ). T (has s x) × (x ≤ 0)) (has s 0) 0 (suc (least_to n (s / 2))) (λ y. (h, le_refl 0)) (λ no. absurd (no h))
least-member (suc n) s (suc g) h l =
    let later = least-member n (s / 2) g h (le_of_suc-le-suc l) in
    pick_ok (λ (x : ℕ). T (has s x) × (x ≤ suc g)) (has s 0) 0 (suc (least_to n (s / 2))) (λ y. (y, omega arith)) (λ no. (later.0, omega (arith, later.1)))

greatest-member : (n s : ℕ) → 0 < s → s < 2 ^ n → T (has s (greatest_to n s)) × ((g : ℕ) → T (has s g) → g ≤ greatest_to n s)
greatest-member zero s h l = absurd (omega arith)
greatest-member (suc n) s h l =
    let p : 2 ^ suc n ≡ 2 ^ n * 2 = pow-suc 2 n in
    pick_ok (λ (x : ℕ). T (has s x) × ((g : ℕ) → T (has s g) → g ≤ x)) (eqb (s / 2) 0) 0 (suc (greatest_to n (s / 2)))
    (λ y.
    let z : s / 2 ≡ 0 = eqb→eq (s / 2) 0 y in
    let one : s % 2 ≡ 1 = omega arith in
    (rw one tt, zero_only z))
    (λ no.
    let some : 0 < s / 2 = by_order (s / 2) 0 (λ le. let z : s / 2 ≡ 0 = omega arith in absurd (no (rw z tt))) (λ lt. lt) in
    let later = greatest-member n (s / 2) some (omega arith) in
    (later.0, at_most later.1))
  where
    zero_only : s / 2 ≡ 0 → (g : ℕ) → T (has s g) → g ≤ 0
    zero_only z zero y = le_refl 0
    zero_only z (suc g) y = absurd (no_member g (subst (λ (x : ℕ). T (has x g)) z y))

    at_most : {u : ℕ} → ((g : ℕ) → T (has (s / 2) g) → g ≤ u) → (g : ℕ) → T (has s g) → g ≤ suc u
    at_most f zero y = omega arith
    at_most f (suc g) y = omega (arith, f g y)

member_below : (s g : ℕ) → s < 65536 → T (has s g) → g < 16
member_below s g h y = by_order 16 g (λ le. absurd (none_past 16 s g h le y)) (λ lt. lt)

-- of a set that has a grade
pub some-ordered : (s : ℕ) → 0 < s → s < 65536 → (least_grade s ≤ greatest_grade s) × (greatest_grade s < 16)
some-ordered s p h =
    let g = greatest-member 16 s p h in
    let few = member_below s (greatest_grade s) h g.0 in
    ((least-member 16 s (greatest_grade s) g.0 few).1, few)

pub set_words : (m s : ℕ) → s < 65536 → T (set_sound m s) ↔ Gapless m s
set_words m s small = (words, sound)
  where
    words : T (set_sound m s) → Gapless m s
    words h =
        let o = sound_spans m s h in
        let l : ℕ = least_grade s in
        let u : ℕ = greatest_grade s in
        let is : (g : ℕ) → has s g ≡ (leb l g && leb g u) = λ g. ap (λ (x : ℕ). has x g) o.is ∙ span-has l u g in
        let low : (g : ℕ) → T (has s g) → l ≤ g = λ g y. leb→le l g (and_l (leb l g) (leb g u) (subst T (is g) y)) in
        let high : (g : ℕ) → T (has s g) → g ≤ u = λ g y. leb→le g u (and_r (leb l g) (leb g u) (subst T (is g) y)) in
        record {
          some = (l, subst T (sym (is l)) (and_i (leb l l) (leb l u) (le→leb l l (le_refl l)) (le→leb l u o.ordered)));
          between = λ a g b p q x y.
              let from = low a x in
              let to = high b y in
              subst T (sym (is g)) (and_i (leb l g) (leb g u) (le→leb l g (omega arith)) (le→leb g u (omega arith)));
          below = λ g y. let to = high g y in let top = o.below in omega arith;
        }

    sound : Gapless m s → T (set_sound m s)
    sound w =
        let l : ℕ = least_grade s in
        let u : ℕ = greatest_grade s in
        let not_none : 0 < s = by_order s 0 (λ le. let z : s ≡ 0 = omega arith in absurd (no_member w.some.0 (subst (λ (x : ℕ). T (has x w.some.0)) z w.some.1))) (λ lt. lt) in
        let great = greatest-member 16 s not_none small in
        let first : (g : ℕ) → T (has s g) → T (has s l) × (l ≤ g) = λ g y. least-member 16 s g y (member_below s g small y) in
        let is : s ≡ span l u =
        same-members 16 s (span l u) small (span_below l u 16 (member_below s u small great.0))
        (λ g.
        same_test (has s g) (leb l g && leb g u)
        (λ y. and_i (leb l g) (leb g u) (le→leb l g (first g y).1) (le→leb g u (great.1 g y)))
        (λ y. w.between l g u (leb→le l g (and_l (leb l g) (leb g u) y)) (leb→le g u (and_r (leb l g) (leb g u) y)) (first u great.0).0 great.0)
        ∙ sym (span-has l u g)) in
        and_i (not (eqb s 0)) (eqb s (span l u) && ltb u m) (rw (ne_eqb s 0 (λ e. omega arith)) tt)
        (and_i (eqb s (span l u)) (ltb u m) (subst (λ (x : ℕ). T (eqb s x)) is (eqb_refl s)) (lt→ltb u m (w.below u great.0)))
