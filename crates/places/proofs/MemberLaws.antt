-- Members of a set among the low places.
use Prim.Native.Nat.{ℕ, zero, suc, ◌*◌, ◌/◌, ◌%◌, ◌^◌, ◌≤◌, ◌<◌}
use mathlib.Core.Path.{◌≡◌, refl, sym, ◌∙◌, subst}
use mathlib.Core.Bool.{Bool, true, false, not}
use mathlib.Core.Logic.{⊎_elim}
use native.Mathlib.Nat.{le_refl, eq-or-lt_of_le, mod-lt, pow-suc, div-eq_of_lt, div-eq_of_lt-le}
use native.Mathlib.Omega.{arith}
use lib.Count.{count_trailing_zeros, under}
use lib.Dec.{T, eqb}
use lib.Pow.{pow_mono}
use Rattle.std.specs.Prelude.{Option, Some, None, IfSome, IfNone, unwrap_or}
use Rattle.rules.specs.Cell.{has}
use Rattle.laws.proofs.NumberLaws.{has-bit}
use Rattle.laws.proofs.SetLaws.{has-none}
use Rattle.laws.proofs.TestLaws.{passes}
use Rattle.places.specs.Members.{LowestMember, HighestMember}

-- the lowest of the first n places that are members
pub record LowestOf (n set r : ℕ) : Type 0 where
  pub top : r ≤ n
  pub member : r < n → T (has set r)
  pub none : (j : ℕ) → j < r → T (has set j) → ⊥

no_digit : (s j t : ℕ) → s % 2 ≡ 0 → ((j : ℕ) → j < t → T (has (s / 2) j) → ⊥) → j < suc t → T (has s j) → ⊥
no_digit s zero t e n h u = subst (λ (d : ℕ). T (eqb d 1)) e u
no_digit s (suc j) t e n h u = n j (omega arith) u

lowest_under : (n s d t : ℕ) → s % 2 ≡ d → d < 2 → LowestOf n (s / 2) t → LowestOf (suc n) s (under d t)
lowest_under n s zero t e h l =
    record { top = let q = l.top in omega arith; member = λ lt. l.member (omega arith); none = λ j lt u. no_digit s j t e l.none lt u }
lowest_under n s (suc zero) t e h l = record { top = omega arith; member = λ lt. subst (λ (d : ℕ). T (eqb d 1)) (sym e) tt; none = λ j lt u. absurd (omega arith) }
lowest_under n s (suc (suc d)) t e h l = absurd (omega arith)

trailing_first : (n s : ℕ) → LowestOf n s (count_trailing_zeros n s)
unfolding count_trailing_zeros
trailing_first zero s = record { top = le_refl 0; member = λ lt. absurd (omega arith); none = λ j lt u. absurd (omega arith) }
trailing_first (suc n) s = lowest_under n s (s % 2) _ refl (mod-lt s (omega arith)) (trailing_first n (s / 2))

pub lowest-zeros : (s : ℕ) → LowestMember s (count_trailing_zeros 8 s)
lowest-zeros s = let l = trailing_first 8 s in record { top = l.top; member = l.member; none = l.none }

-- the highest member, by the power of two that a set reaches
pub highest-power : (s k : ℕ) → 2 ^ k ≤ s → s < 2 * 2 ^ k → k < 8 → HighestMember s k
highest-power s k le lt few =
    record {
      top = few;
      member = λ j _ _. let one : s / 2 ^ k ≡ 1 = div-eq_of_lt-le (2 ^ k) (omega arith) (omega arith) in subst T (sym (has-bit s k)) (rw one tt);
      none = λ j gt _ t.
          let up : suc k ≤ j = omega arith in
          let p : 2 * 2 ^ k ≤ 2 ^ j = omega (arith, pow-suc 2 k, pow_mono up) in
          let z : s / 2 ^ j ≡ 0 = div-eq_of_lt (omega arith) in
          absurd (rw z at (subst T (has-bit s j) t));
    }

pub highest-log : (s : ℕ) (r : Option ℕ) → IfNone r (s ≡ 0) → IfSome r (λ k. 2 ^ k ≤ s) → IfSome r (λ k. s < 2 * 2 ^ k) → IfSome r (λ k. k < 8) → HighestMember s (unwrap_or r 0)
highest-log s None z a b f = record { top = omega arith; member = λ j _ t. absurd (has-none j (subst (λ (x : ℕ). T (has x j)) z t)); none = λ j _ _ t. has-none j (subst (λ (x : ℕ). T (has x j)) z t) }
highest-log s (Some k) z a b f = highest-power s k a b f

-- what walks over a set's places cite: a member or none, as a test found it
refuted : (m : Bool) → not m ≡ true → m ≡ false
refuted true q = sym q
refuted false q = refl

upheld : (m : Bool) → not m ≡ false → m ≡ true
upheld true q = refl
upheld false q = sym q

pub outside : (set i : ℕ) {member : Bool} → member ≡ has set i → not member ≡ true → T (has set i) → ⊥
outside set i {member} e f t = subst T (sym e ∙ refuted member f) t

pub inside : (set i : ℕ) {member : Bool} → member ≡ has set i → not member ≡ false → T (has set i)
inside set i {member} e f = passes (sym e ∙ upheld member f)

pub lower : {a b : ℕ} → a ≤ b → (a ≡ b → ⊥) → a < b
lower le ne = ⊎_elim (λ e. absurd (ne e)) (λ lt. lt) (eq-or-lt_of_le le)

-- a place that is not the lowest member lies above it
pub above : {lowest i : ℕ} → lowest ≤ i → (i ≡ lowest → ⊥) → lowest < i
above le ne = lower le (λ e. ne (sym e))
