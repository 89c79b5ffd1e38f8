-- "Over" a union of sets is "over" the one, then the other: what a loop over the conditions of a set computes.
use Prim.Native.Nat.{ℕ, ◌+◌, ◌*◌, ◌/◌, ◌%◌, ◌≤◌, ◌<◌}
use mathlib.Core.Path.{◌≡◌, ◌∙◌, ap}
use mathlib.Core.Bool.{Bool, true, false, not, ◌&&◌, ◌||◌}
use mathlib.Core.List.{List, [], ◌∷◌}
use native.Mathlib.Nat.{zero-add, le_refl, mod-lt, add-mul-mod_self_left, add-mul-div_left, mod-eq_of_lt, div-eq_of_lt, mul-le-mul_left}
use native.Mathlib.Omega.{arith}
use lib.Dec.{T, eqb, eqb_refl}
use Rattle.rules.specs.Bytes.{pick, at}
use Rattle.rules.specs.Cell.{Positive, cells, agree_outside, over}
use Rattle.laws.proofs.OverLaws.{subset, Bound, over-at, over_self, over-least, over-bound, over_blind, blind_part, agree_head, agree_tail, agree_cons}
use Rattle.laws.proofs.TestLaws.{and_l, and_r}

pub digit_mod : (k v x : ℕ) → v < k → (v + k * x) % k ≡ v
digit_mod k v x h = add-mul-mod_self_left v k x ∙ mod-eq_of_lt h

pub digit_div : (k v x : ℕ) → v < k → (v + k * x) / k ≡ x
digit_div k v x h = add-mul-div_left v x (omega arith) ∙ ap (λ (y : ℕ). y + x) (div-eq_of_lt h) ∙ zero-add x

pub digit-below : (k v x n : ℕ) → v < k → x < n → v + k * x < k * n
digit-below k v x n h g =
    let m : k * (x + 1) ≤ k * n = mul-le-mul_left k (omega arith) in
    omega arith

-- the cell with the values of d at the conditions of s, and those of c elsewhere
unfoldable pub mix : List ℕ → ℕ → ℕ → ℕ → ℕ
mix [] s c d = 0
mix (k ∷ ks) s c d = pick (eqb (s % 2) 1) (d % k) (c % k) + k * mix ks (s / 2) (c / k) (d / k)

pick_lt : (b : Bool) (x y k : ℕ) → x < k → y < k → pick b x y < k
pick_lt true x y k h g = h
pick_lt false x y k h g = g

pub digit_lt : (s c d k : ℕ) → 0 < k → pick (eqb (s % 2) 1) (d % k) (c % k) < k
digit_lt s c d k h = pick_lt (eqb (s % 2) 1) (d % k) (c % k) k (mod-lt d h) (mod-lt c h)

pub mix_lt : (ks : List ℕ) (s c d : ℕ) → Positive ks → mix ks s c d < cells ks
unfolding mix
mix_lt [] s c d p = le_refl 1
mix_lt (k ∷ ks) s c d p = digit-below k _ _ _ (digit_lt s c d k p.0) (mix_lt ks (s / 2) (c / k) (d / k) p.1)

pub mix-left : (ks : List ℕ) (s c d : ℕ) → Positive ks → T (agree_outside ks s c (mix ks s c d))
unfolding mix
mix-left [] s c d p = tt
mix-left (k ∷ ks) s c d p =
    agree_cons k ks s c (mix (k ∷ ks) s c d)
    (rw (digit_mod k _ (mix ks (s / 2) (c / k) (d / k)) (digit_lt s c d k p.0)) (go (eqb (s % 2) 1)))
    (rw (digit_div k _ (mix ks (s / 2) (c / k) (d / k)) (digit_lt s c d k p.0)) (mix-left ks (s / 2) (c / k) (d / k) p.1))
  where
    go : (o : Bool) → T (o || eqb (c % k) (pick o (d % k) (c % k)))
    go true = tt
    go false = eqb_refl (c % k)

-- every condition of w is in s or in t
abbrev pub cover : List ℕ → ℕ → ℕ → ℕ → Bool
cover [] w s t = true
cover (k ∷ ks) w s t = (not (eqb (w % 2) 1) || (eqb (s % 2) 1 || eqb (t % 2) 1)) && cover ks (w / 2) (s / 2) (t / 2)

mix-right : (ks : List ℕ) (w s t c d : ℕ) → Positive ks → T (cover ks w s t) → T (agree_outside ks w c d) → T (agree_outside ks t (mix ks s c d) d)
unfolding mix
mix-right [] w s t c d p v a = tt
mix-right (k ∷ ks) w s t c d p v a =
    agree_cons k ks t (mix (k ∷ ks) s c d) d
    (rw (digit_mod k _ (mix ks (s / 2) (c / k) (d / k)) (digit_lt s c d k p.0))
    (go (eqb (w % 2) 1) (eqb (s % 2) 1) (eqb (t % 2) 1) (and_l (not (eqb (w % 2) 1) || (eqb (s % 2) 1 || eqb (t % 2) 1)) (cover ks (w / 2) (s / 2) (t / 2)) v) (agree_head k ks w c d a)))
    (rw (digit_div k _ (mix ks (s / 2) (c / k) (d / k)) (digit_lt s c d k p.0))
    (mix-right ks (w / 2) (s / 2) (t / 2) (c / k) (d / k) p.1 (and_r (not (eqb (w % 2) 1) || (eqb (s % 2) 1 || eqb (t % 2) 1)) (cover ks (w / 2) (s / 2) (t / 2)) v) (agree_tail k ks w c d a)))
  where
    go : (o q r : Bool) → T (not o || (q || r)) → T (o || eqb (c % k) (d % k)) → T (r || eqb (pick q (d % k) (c % k)) (d % k))
    go o q true h g = tt
    go o true false h g = eqb_refl (d % k)
    go true false false h g = absurd h
    go false false false h g = g

module _ {op : ℕ → ℕ → ℕ} {R : ℕ → ℕ → Type 0} (B : Bound op R) where
  -- over w is over t, then over s, where w is the union of s and t
  pub over-over : (ks : List ℕ) (w s t : ℕ) (f : List ℕ) → Positive ks → T (subset ks s w) → T (subset ks t w) → T (cover ks w s t)
      → (c : ℕ) → c < cells ks → at (over op ks s (over op ks t f)) c ≡ at (over op ks w f) c
  over-over ks w s t f p ps pt v c hc =
      B.anti
      (over-least B ks s (over op ks t f) (at (over op ks w f)) (blind_part ks s w _ ps (over_blind B ks w f))
      (over-least B ks t f (at (over op ks w f)) (blind_part ks t w _ pt (over_blind B ks w f)) (over_self B ks w f)) c hc)
      (over-bound B ks w f c (at (over op ks s (over op ks t f)) c) hc
      (λ d hd a.
      B.trans (over-at B ks t f (mix ks s c d) d (mix_lt ks s c d p) hd (mix-right ks w s t c d p v a))
      (over-at B ks s (over op ks t f) c (mix ks s c d) hc (mix_lt ks s c d p) (mix-left ks s c d p))))
