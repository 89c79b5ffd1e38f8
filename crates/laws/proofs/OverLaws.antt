-- Laws of `over`: it is the closure, under the order that the operation belongs to, among functions blind to the set.
use Prim.Native.Nat.{ℕ, zero, suc, ◌/◌, ◌%◌, ◌≤◌, ◌<◌, min, max}
use mathlib.Core.Path.{◌≡◌, sym, ◌∙◌, ap, subst}
use mathlib.Core.Bool.{Bool, true, false, not, ◌&&◌, ◌||◌}
use mathlib.Core.List.{List, [], ◌∷◌}
use native.Mathlib.Nat.{le_refl, le_trans, le_antisymm, le_of_suc-le-suc, not-suc-le-zero, eq-or-lt_of_le, le-max_left, le-max_right, max-le, min-le_left, min-le_right, le-min}
use mathlib.Core.Logic.{⊎_elim}
use native.Mathlib.Omega.{arith}
use lib.Dec.{T, eqb, eqb→eq, eqb_refl}
use Rattle.laws.proofs.TestLaws.{and_l, and_r, and_i, pick_true}
use Rattle.laws.proofs.TableLaws.{at-tabulate}
use Rattle.rules.specs.Bytes.{pick, at}
use Rattle.rules.specs.Cell.{Blind, cells, agree_outside, over_to, over}

-- agreeing outside a set is an equivalence
-- the test at condition 0: it is in the set, or the values are equal
abbrev pub same : ℕ → ℕ → ℕ → ℕ → Bool
same k t c d = eqb (t % 2) 1 || eqb (c % k) (d % k)

module _ (k : ℕ) (ks : List ℕ) (t c d : ℕ) where
  pub agree_head : T (agree_outside (k ∷ ks) t c d) → T (same k t c d)
  agree_head = and_l (same k t c d) (agree_outside ks (t / 2) (c / k) (d / k))

  pub agree_tail : T (agree_outside (k ∷ ks) t c d) → T (agree_outside ks (t / 2) (c / k) (d / k))
  agree_tail = and_r (same k t c d) (agree_outside ks (t / 2) (c / k) (d / k))

  pub agree_cons : T (same k t c d) → T (agree_outside ks (t / 2) (c / k) (d / k)) → T (agree_outside (k ∷ ks) t c d)
  agree_cons = and_i (same k t c d) (agree_outside ks (t / 2) (c / k) (d / k))

or_refl : (o : Bool) (x : ℕ) → T (o || eqb x x)
or_refl true x = tt
or_refl false x = eqb_refl x

or_sym : (o : Bool) (x y : ℕ) → T (o || eqb x y) → T (o || eqb y x)
or_sym true x y h = tt
or_sym false x y h = subst (λ (z : ℕ). T (eqb z x)) (eqb→eq x y h) (eqb_refl x)

or_trans : (o : Bool) (x y z : ℕ) → T (o || eqb x y) → T (o || eqb y z) → T (o || eqb x z)
or_trans true x y z h g = tt
or_trans false x y z h g = subst (λ (w : ℕ). T (eqb x w)) (eqb→eq y z g) h

pub agree_refl : (ks : List ℕ) (t c : ℕ) → T (agree_outside ks t c c)
agree_refl [] t c = tt
agree_refl (k ∷ ks) t c = agree_cons k ks t c c (or_refl (eqb (t % 2) 1) (c % k)) (agree_refl ks (t / 2) (c / k))

pub agree_sym : (ks : List ℕ) (t c d : ℕ) → T (agree_outside ks t c d) → T (agree_outside ks t d c)
agree_sym [] t c d h = tt
agree_sym (k ∷ ks) t c d h =
    agree_cons k ks t d c (or_sym (eqb (t % 2) 1) (c % k) (d % k) (agree_head k ks t c d h))
    (agree_sym ks (t / 2) (c / k) (d / k) (agree_tail k ks t c d h))

pub agree_trans : (ks : List ℕ) (t c d e : ℕ) → T (agree_outside ks t c d) → T (agree_outside ks t d e) → T (agree_outside ks t c e)
agree_trans [] t c d e h g = tt
agree_trans (k ∷ ks) t c d e h g =
    agree_cons k ks t c e
    (or_trans (eqb (t % 2) 1) (c % k) (d % k) (e % k) (agree_head k ks t c d h) (agree_head k ks t d e g))
    (agree_trans ks (t / 2) (c / k) (d / k) (e / k) (agree_tail k ks t c d h) (agree_tail k ks t d e g))

-- a set is part of another, among the conditions of the shape
abbrev pub subset : List ℕ → ℕ → ℕ → Bool
subset [] s t = true
subset (k ∷ ks) s t = (not (eqb (s % 2) 1) || eqb (t % 2) 1) && subset ks (s / 2) (t / 2)

-- cells that are equal outside a set are equal outside a greater one
pub agree-part : (ks : List ℕ) (s t c d : ℕ) → T (subset ks s t) → T (agree_outside ks s c d) → T (agree_outside ks t c d)
agree-part [] s t c d p h = tt
agree-part (k ∷ ks) s t c d p h =
    agree_cons k ks t c d
    (go (eqb (s % 2) 1) (eqb (t % 2) 1) (eqb (c % k) (d % k)) (and_l (not (eqb (s % 2) 1) || eqb (t % 2) 1) (subset ks (s / 2) (t / 2)) p) (agree_head k ks s c d h))
    (agree-part ks (s / 2) (t / 2) (c / k) (d / k) (and_r (not (eqb (s % 2) 1) || eqb (t % 2) 1) (subset ks (s / 2) (t / 2)) p) (agree_tail k ks s c d h))
  where
    go : (o q e : Bool) → T (not o || q) → T (o || e) → T (q || e)
    go true true e p h = tt
    go true false e p h = absurd p
    go false true e p h = tt
    go false false e p h = h

-- an operation that gives the least bound of two numbers in an order
pub record Bound (op : ℕ → ℕ → ℕ) (R : ℕ → ℕ → Type 0) : Type 0 where
  pub left : (a b : ℕ) → R a (op a b)
  pub right : (a b : ℕ) → R b (op a b)
  pub both : {a b c : ℕ} → R a c → R b c → R (op a b) c
  pub self : (a : ℕ) → R a a
  pub trans : {a b c : ℕ} → R a b → R b c → R a c
  pub anti : {a b : ℕ} → R a b → R b a → a ≡ b

pub max-bound : Bound max (λ a b. a ≤ b)
max-bound = record { left = le-max_left; right = le-max_right; both = max-le; self = le_refl; trans = le_trans; anti = le_antisymm }

pub min-bound : Bound min (λ a b. b ≤ a)
min-bound =
    record { left = min-le_left; right = min-le_right; both = λ h g. le-min h g; self = le_refl; trans = λ h g. le_trans g h; anti = λ h g. le_antisymm g h }

module _ {op : ℕ → ℕ → ℕ} {R : ℕ → ℕ → Type 0} (B : Bound op R) where
  pub over_to_seed : (p : ℕ → Bool) (f : ℕ → ℕ) (a n : ℕ) → R a (over_to op p f a n)
  over_to_seed p f a zero = B.self a
  over_to_seed p f a (suc n) = B.trans (over_to_seed p f a n) (B.left _ _)

  pub over_to-at : (p : ℕ → Bool) (f : ℕ → ℕ) (a n d : ℕ) → d < n → T (p d) → R (f d) (over_to op p f a n)
  over_to-at p f a zero d h t = absurd (not-suc-le-zero h)
  over_to-at p f a (suc n) d h t =
      ⊎_elim
      (λ e. B.trans (subst (λ (x : ℕ). R (f d) x) (ap f e ∙ sym (pick_true (p n) (f n) a (subst (λ (x : ℕ). T (p x)) e t))) (B.self (f d))) (B.right _ _))
      (λ l. B.trans (over_to-at p f a n d l t) (B.left _ _))
      (eq-or-lt_of_le (le_of_suc-le-suc h))

  pub over_to-both : (p : ℕ → Bool) (f : ℕ → ℕ) (a b n : ℕ) → R a b → ((d : ℕ) → d < n → T (p d) → R (f d) b) → R (over_to op p f a n) b
  over_to-both p f a b zero r h = r
  over_to-both p f a b (suc n) r h =
      B.both (over_to-both p f a b n r (λ d l t. h d (omega arith) t)) (go (p n) (h n (le_refl _)))
    where
      go : (q : Bool) → (T q → R (f n) b) → R (pick q (f n) a) b
      go true k = k tt
      go false k = r

  -- the three laws: an upper bound, blind to the set, and the least such
  module _ (ks : List ℕ) (t : ℕ) (f : List ℕ) where
    over-is : (c : ℕ) → c < cells ks → at (over op ks t f) c ≡ over_to op (agree_outside ks t c) (at f) (at f c) (cells ks)
    over-is c h = at-tabulate (cells ks) (λ c. over_to op (agree_outside ks t c) (at f) (at f c) (cells ks)) c h

    pub over-at : (c d : ℕ) → c < cells ks → d < cells ks → T (agree_outside ks t c d) → R (at f d) (at (over op ks t f) c)
    over-at c d hc hd a = rw (over-is c hc) (over_to-at (agree_outside ks t c) (at f) (at f c) (cells ks) d hd a)

    pub over-least : (h : ℕ → ℕ) → Blind ks t h → ((c : ℕ) → c < cells ks → R (at f c) (h c)) → (c : ℕ) → c < cells ks → R (at (over op ks t f) c) (h c)
    over-least h blind le c hc =
        rw (over-is c hc)
        (over_to-both (agree_outside ks t c) (at f) (at f c) (h c) (cells ks) (le c hc)
        (λ d hd a. rw (blind c d hc hd a) (le d hd)))

    pub over-bound : (c b : ℕ) → c < cells ks → ((d : ℕ) → d < cells ks → T (agree_outside ks t c d) → R (at f d) b) → R (at (over op ks t f) c) b
    over-bound c b hc h =
        rw (over-is c hc) (over_to-both (agree_outside ks t c) (at f) (at f c) b (cells ks) (h c hc (agree_refl ks t c)) h)

    pub over_self : (c : ℕ) → c < cells ks → R (at f c) (at (over op ks t f) c)
    over_self c hc = over-at c c hc hc (agree_refl ks t c)

    half : (c d : ℕ) → c < cells ks → d < cells ks → T (agree_outside ks t c d) → R (at (over op ks t f) c) (at (over op ks t f) d)
    half c d hc hd a =
        rw (over-is c hc)
        (over_to-both (agree_outside ks t c) (at f) (at f c) (at (over op ks t f) d) (cells ks)
        (over-at d c hd hc (agree_sym ks t c d a))
        (λ e he b. over-at d e hd he (agree_trans ks t d c e (agree_sym ks t c d a) b)))

    pub over_blind : Blind ks t (at (over op ks t f))
    over_blind c d hc hd a = B.anti (half c d hc hd a) (half d c hd hc (agree_sym ks t c d a))

-- what is blind to a set is blind to a part of it
pub blind_part : (ks : List ℕ) (s t : ℕ) (f : ℕ → ℕ) → T (subset ks s t) → Blind ks t f → Blind ks s f
blind_part ks s t f p b c d hc hd a = b c d hc hd (agree-part ks s t c d p a)
