-- Cells that agree outside a set, place by place.
use Prim.Native.Nat.{ℕ, zero, suc, ◌*◌, ◌/◌, ◌%◌, ◌≤◌, ◌<◌}
use mathlib.Core.Path.{◌≡◌, refl, sym, ◌∙◌, ap}
use mathlib.Core.List.{List, [], ◌∷◌}
use native.Mathlib.Omega.{arith}
use native.Mathlib.Nat.{le_of_suc-le-suc, not-suc-le-zero, mod-lt, mod-eq_of_lt, mul-one}
use lib.Dec.{T}
use Rattle.rules.specs.Cell.{Positive, card, present, step, value, has, agree_outside}
use Rattle.laws.proofs.TestLaws.{by_order}
use Rattle.laws.proofs.CellLaws.{div_below, not-above, value_lt, value_inj, agree-value, value-agree}
use Rattle.laws.proofs.LineLaws.{mod_mul, step_pos, step-next, value-step}
use Rattle.laws.proofs.LoopLaws.{step_le, step_start}
use Rattle.laws.proofs.UnionLaws.{digit_mod, digit_div}

-- a number's digits below a product, and above it
module _ (c s k : ℕ) (hs : 0 < s) (hk : 0 < k) where
  pub low-low : c % (s * k) % s ≡ c % s
  low-low = ap (λ (x : ℕ). x % s) (mod_mul c s k hs hk) ∙ digit_mod s (c % s) (c / s % k) (mod-lt c hs)

  pub low-high : c % (s * k) / s ≡ c / s % k
  low-high = ap (λ (x : ℕ). x / s) (mod_mul c s k hs hk) ∙ digit_div s (c % s) (c / s % k) (mod-lt c hs)

-- the values of the places below i are those of the number below step i; it has none from i on
pub value_low : (ks : List ℕ) (x i j : ℕ) → Positive ks → j < i → value ks (x % step ks i) j ≡ value ks x j
value_low [] x i j p lt = refl
value_low (k ∷ ks) x zero j p lt = absurd (not-suc-le-zero lt)
value_low (k ∷ ks) x (suc i) zero p lt = low-low x k (step ks i) p.0 (step_pos ks i p.1)
value_low (k ∷ ks) x (suc i) (suc j) p lt =
    ap (λ (z : ℕ). value ks z j) (low-high x k (step ks i) p.0 (step_pos ks i p.1)) ∙ value_low ks (x / k) i j p.1 (le_of_suc-le-suc lt)

pub value-high : (ks : List ℕ) (x i j : ℕ) → Positive ks → x < step ks i → i ≤ j → value ks x j ≡ 0
value-high [] x i j p lt le = refl
value-high (k ∷ ks) x zero zero p lt le = let e : x ≡ 0 = omega arith in ap (λ (z : ℕ). z % k) e ∙ mod-eq_of_lt p.0
value-high (k ∷ ks) x zero (suc j) p lt le =
    value-high ks (x / k) 0 j p.1 (let h = p.0 in let q = div_below x k 1 p.0 (omega (arith, mul-one k)) in omega (arith, step_start ks)) (omega arith)
value-high (k ∷ ks) x (suc i) zero p lt le = absurd (omega arith)
value-high (k ∷ ks) x (suc i) (suc j) p lt le = value-high ks (x / k) i j p.1 (div_below x k (step ks i) p.0 lt) (le_of_suc-le-suc le)

module _ (ks : List ℕ) (p : Positive ks) (t i x y : ℕ) where
  -- both have no value there
  high_same : x < step ks i → y < step ks i → (j : ℕ) → i ≤ j → value ks x j ≡ value ks y j
  high_same hx hy j le = value-high ks x i j p hx le ∙ sym (value-high ks y i j p hy le)

  -- no member is below place i: they are the same; all conditions below it are members: they agree
  pub agree-none : ((j : ℕ) → j < i → T (has t j) → ⊥) → x < step ks i → y < step ks i → T (agree_outside ks t x y) → x ≡ y
  agree-none none hx hy a =
      let c = step_le ks i p in
      value_inj ks p x y (omega arith) (omega arith) (λ j. by_order i j (λ le. high_same hx hy j le) (λ lt. agree-value ks t x y j a (none j lt)))

  pub agree-all : ((j : ℕ) → j < i → T (present ks j) → T (has t j)) → x < step ks i → y < step ks i → T (agree_outside ks t x y)
  agree-all inside hx hy =
      value-agree ks t x y
      (λ j no.
      by_order i j (λ le. high_same hx hy j le)
      (λ lt.
      let one = not-above (card ks j) (λ q. no (inside j lt q)) in
      let vx = value_lt ks x j p in
      let vy = value_lt ks y j p in
      omega arith))

  -- the places below i, of two that agree
  pub agree-low : T (agree_outside ks t x y) → T (agree_outside ks t (x % step ks i) (y % step ks i))
  agree-low a =
      value-agree ks t _ _
      (λ j no.
      by_order i j (λ le. value-high ks _ i j p (mod-lt x (step_pos ks i p)) le ∙ sym (value-high ks _ i j p (mod-lt y (step_pos ks i p)) le))
      (λ lt. value_low ks x i j p lt ∙ agree-value ks t x y j a no ∙ sym (value_low ks y i j p lt)))

  -- numbers with no value above place i
  module _ (hx : x < step ks (suc i)) (hy : y < step ks (suc i)) where
    top : (z : ℕ) → z < step ks (suc i) → value ks z i ≡ z / step ks i
    top z hz = value-step ks z i ∙ mod-eq_of_lt (div_below z (step ks i) (card ks i) (step_pos ks i p) (let e = step-next ks i in omega arith))

    -- condition i is no member: its values are equal
    pub agree-top : T (agree_outside ks t x y) → (T (has t i) → ⊥) → x / step ks i ≡ y / step ks i
    agree-top a out = sym (top x hx) ∙ agree-value ks t x y i a out ∙ top y hy

    -- and back
    pub agree_up : T (agree_outside ks t (x % step ks i) (y % step ks i)) → ((T (has t i) → ⊥) → x / step ks i ≡ y / step ks i) → T (agree_outside ks t x y)
    agree_up a h =
        value-agree ks t x y
        (λ j no.
        by_order (suc i) j (λ le. value-high ks x (suc i) j p hx le ∙ sym (value-high ks y (suc i) j p hy le))
        (λ lt.
        by_order i j (λ le. let e : j ≡ i = omega arith in at_top j e no)
        (λ lo. sym (value_low ks x i j p lo) ∙ agree-value ks t _ _ j a no ∙ value_low ks y i j p lo)))
      where
        at_top : (j : ℕ) → j ≡ i → (T (has t j) → ⊥) → value ks x j ≡ value ks y j
        at_top j e out = rw e (top x hx ∙ h (λ m. out (rw e m)) ∙ sym (top y hy))
