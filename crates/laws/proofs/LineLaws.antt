-- What the loops compute: over one condition, over a set, a value, and a cell with one value put.
use Prim.Native.Nat.{ℕ, zero, suc, ◌+◌, ◌*◌, ◌/◌, ◌%◌, ◌≤◌, ◌<◌}
use mathlib.Core.Path.{◌≡◌, refl, sym, ◌∙◌, ap, ap₂, subst}
use mathlib.Core.Bool.{Bool, true, false, not, ◌||◌}
use mathlib.Core.List.{List, [], ◌∷◌}
use mathlib.Core.Logic.{◌⊎◌, inl, inr, ⊎_elim}
use native.Mathlib.Nat.{le_refl, add_assoc, mul_assoc, mul-add, mul-pos, mod-lt, mod-one, div-one, mod-eq_of_lt, div-div-eq-div-mul, not-suc-le-zero, le_of_suc-le-suc, mod-add-div}
use native.Mathlib.Omega.{arith}
use lib.Dec.{T, eqb}
use lib.ListN.{length, drop}
use Rattle.rules.specs.Bytes.{pick, at}
use Rattle.rules.specs.Cell.{Positive, cells, card, step, value, cell, remap, put, has, insert, singleton, without, agree_outside, over, over_to}
use Rattle.laws.proofs.OverLaws.{Bound, over-at, over_self, over-bound, over_to-at, over_to-both, subset}
use Rattle.laws.proofs.TableLaws.{at-tabulate, tabulate-same}
use Rattle.laws.proofs.TestLaws.{and_i, by_equal}
use Rattle.laws.proofs.UnionLaws.{digit_mod, digit_div, digit-below, cover, over-over}
use Rattle.laws.proofs.SetLaws.{has_same, has_keep, insert-has, singleton-has}
use Rattle.laws.proofs.CellLaws.{div_below, cell-value, value_lt, value_inj, agree-value, value-agree}
use Rattle.laws.proofs.LowestLaws.{without-none, without-suc}

-- a cell with one value put
pub put_lt : (ks : List ℕ) (c i v : ℕ) → Positive ks → c < cells ks → v < card ks i → put ks c i v < cells ks
put_lt [] c i v p hc hv = hc
put_lt (k ∷ ks) c zero v p hc hv = digit-below k v (c / k) (cells ks) hv (div_below c k (cells ks) p.0 hc)
put_lt (k ∷ ks) c (suc i) v p hc hv =
    digit-below k (c % k) _ (cells ks) (mod-lt c p.0) (put_lt ks (c / k) i v p.1 (div_below c k (cells ks) p.0 hc) hv)

pub put_same : (ks : List ℕ) (c i v : ℕ) → Positive ks → v < card ks i → value ks (put ks c i v) i ≡ v
put_same [] c i v p hv = omega arith
put_same (k ∷ ks) c zero v p hv = digit_mod k v (c / k) hv
put_same (k ∷ ks) c (suc i) v p hv =
    rw (digit_div k (c % k) (put ks (c / k) i v) (mod-lt c p.0)) (put_same ks (c / k) i v p.1 hv)

pub put_other : (ks : List ℕ) (c i j v : ℕ) → Positive ks → v < card ks i → (j ≡ i → ⊥) → value ks (put ks c i v) j ≡ value ks c j
put_other [] c i j v p hv ne = refl
put_other (k ∷ ks) c zero zero v p hv ne = absurd (ne refl)
put_other (k ∷ ks) c zero (suc j) v p hv ne = ap (λ (x : ℕ). value ks x j) (digit_div k v (c / k) hv)
put_other (k ∷ ks) c (suc i) zero v p hv ne = digit_mod k (c % k) (put ks (c / k) i v) (mod-lt c p.0)
put_other (k ∷ ks) c (suc i) (suc j) v p hv ne =
    ap (λ (x : ℕ). value ks x j) (digit_div k (c % k) (put ks (c / k) i v) (mod-lt c p.0))
    ∙ put_other ks (c / k) i j v p.1 hv (λ e. ne (ap suc e))

pub put_self : (ks : List ℕ) (c i : ℕ) → put ks c i (value ks c i) ≡ c
put_self [] c i = refl
put_self (k ∷ ks) c zero = mod-add-div c k
put_self (k ∷ ks) c (suc i) = ap (λ (x : ℕ). c % k + k * x) (put_self ks (c / k) i) ∙ mod-add-div c k

-- by steps
pub step_pos : (ks : List ℕ) (i : ℕ) → Positive ks → 0 < step ks i
step_pos [] i p = le_refl 1
step_pos (k ∷ ks) zero p = le_refl 1
step_pos (k ∷ ks) (suc i) p = mul-pos p.0 (step_pos ks i p.1)

pub step-next : (ks : List ℕ) (i : ℕ) → step ks (suc i) ≡ step ks i * card ks i
step-next [] i = refl
step-next (k ∷ []) zero = omega arith
step-next (k ∷ l ∷ ks) zero = omega arith
step-next (k ∷ ks) (suc i) = ap (λ (x : ℕ). k * x) (step-next ks i) ∙ sym (mul_assoc k (step ks i) (card ks i))

pub step-all : (ks : List ℕ) (i : ℕ) → length ks ≤ i → step ks i ≡ cells ks
step-all [] i h = refl
step-all (k ∷ ks) zero h = absurd (not-suc-le-zero h)
step-all (k ∷ ks) (suc i) h = ap (λ (x : ℕ). k * x) (step-all ks i (le_of_suc-le-suc h))

-- the value of condition i: c / step % card
pub value-step : (ks : List ℕ) (c i : ℕ) → value ks c i ≡ c / step ks i % card ks i
value-step [] c i = sym (mod-one (c / 1))
value-step (k ∷ ks) c zero = ap (λ (x : ℕ). x % k) (sym (div-one c))
value-step (k ∷ ks) c (suc i) = value-step ks (c / k) i ∙ ap (λ (x : ℕ). x % card ks i) (div-div-eq-div-mul c k (step ks i))

pub mod_mul : (c k w : ℕ) → 0 < k → 0 < w → c % (k * w) ≡ c % k + k * (c / k % w)
mod_mul c k w p q =
    ap (λ (x : ℕ). x % (k * w)) (sym split)
    ∙ digit_mod (k * w) (c % k + k * (c / k % w)) (c / k / w) (digit-below k (c % k) (c / k % w) w (mod-lt c p) (mod-lt (c / k) q))
  where
    split : c % k + k * (c / k % w) + k * w * (c / k / w) ≡ c
    split =
        add_assoc (c % k) (k * (c / k % w)) (k * w * (c / k / w))
        ∙ ap (λ (x : ℕ). c % k + x) (ap (λ (x : ℕ). k * (c / k % w) + x) (mul_assoc k w (c / k / w)) ∙ sym (mul-add k (c / k % w) (w * (c / k / w))) ∙ ap (λ (x : ℕ). k * x) (mod-add-div (c / k) w))
        ∙ mod-add-div c k

-- the cell with value v put: c % step + step × (v + card × (c / step / card))
pub put_step : (ks : List ℕ) (c i v : ℕ) → Positive ks → v < card ks i → put ks c i v ≡ c % step ks i + step ks i * (v + card ks i * (c / step ks i / card ks i))
put_step [] c i v p h = rw (mod-one c, div-one c, div-one c) (omega arith)
put_step (k ∷ ks) c zero v p h = rw (mod-one c, div-one c) (omega arith)
put_step (k ∷ ks) c (suc i) v p h =
    ap (λ (x : ℕ). c % k + k * x) (put_step ks (c / k) i v p.1 h)
    ∙ ap (λ (x : ℕ). c % k + k * (c / k % step ks i + step ks i * (v + card ks i * (x / card ks i)))) (div-div-eq-div-mul c k (step ks i))
    ∙ ap (λ (x : ℕ). c % k + x) (mul-add k (c / k % step ks i) _ ∙ ap (λ (x : ℕ). k * (c / k % step ks i) + x) (sym (mul_assoc k (step ks i) _)))
    ∙ sym (add_assoc (c % k) (k * (c / k % step ks i)) _)
    ∙ ap (λ (x : ℕ). x + k * step ks i * (v + card ks i * (c / (k * step ks i) / card ks i))) (sym (mod_mul c k (step ks i) p.0 (step_pos ks i p.1)))

-- without one condition: the steps up to it, the cells, and where they lie among all
pub step-without : (ks : List ℕ) (i : ℕ) → step (without (singleton i) ks) i ≡ step ks i
step-without [] i = refl
step-without (k ∷ ks) zero = refl
step-without (k ∷ ks) (suc i) = ap (λ (b : List ℕ). step b (suc i)) (without-suc i k ks) ∙ ap (λ (x : ℕ). k * x) (step-without ks i)

pub cells-without : (ks : List ℕ) (i : ℕ) → i < length ks → cells (without (singleton i) ks) ≡ step ks i * cells (drop (suc i) ks)
cells-without [] i h = absurd (not-suc-le-zero h)
cells-without (k ∷ ks) zero h = ap (λ (b : List ℕ). 1 * cells b) (without-none ks)
cells-without (k ∷ ks) (suc i) h =
    ap cells (without-suc i k ks) ∙ ap (λ (x : ℕ). k * x) (cells-without ks i (le_of_suc-le-suc h)) ∙ sym (mul_assoc k (step ks i) (cells (drop (suc i) ks)))

pub remap-without : (ks : List ℕ) (i c : ℕ) → Positive ks → i < length ks → c < cells (without (singleton i) ks)
    → remap (without (singleton i) ks) ks c ≡ c % step ks i + step ks i * card ks i * (c / step ks i)
remap-without [] i c p h hc = absurd (not-suc-le-zero h)
remap-without (k ∷ ks) zero c p h hc = first (without 0 ks) (without-none ks) hc
  where
    first : (b : List ℕ) → b ≡ ks → c < 1 * cells b → c % 1 % k + k * cell ks (value b (c / 1)) ≡ c % 1 + 1 * k * (c / 1)
    first b e lt =
        rw (e, mod-one c, div-one c, cell-value ks c p.1 (let q = ap cells e in omega arith)) (ap (λ (x : ℕ). x + k * c) (mod-eq_of_lt p.0) ∙ omega arith)
remap-without (k ∷ ks) (suc i) c p h hc =
    ap (λ (b : List ℕ). cell (k ∷ ks) (value b c)) (without-suc i k ks)
    ∙ ap₂ (λ (x y : ℕ). x + k * y) (mod-eq_of_lt (mod-lt c p.0)) (remap-without ks i (c / k) p.1 (le_of_suc-le-suc h) (div_below c k _ p.0 (let e = ap cells (without-suc i k ks) in omega arith)))
    ∙ ap (λ (x : ℕ). c % k + k * (c / k % s + s * card ks i * x)) (div-div-eq-div-mul c k s)
    ∙ ap (λ (x : ℕ). c % k + x) (mul-add k (c / k % s) (s * card ks i * (c / (k * s))))
    ∙ sym (add_assoc (c % k) (k * (c / k % s)) (k * (s * card ks i * (c / (k * s)))))
    ∙ ap₂ (λ (x y : ℕ). x + y) (sym (mod_mul c k s p.0 (step_pos ks i p.1)))
    (sym (mul_assoc k (s * card ks i) (c / (k * s))) ∙ ap (λ (x : ℕ). x * (c / (k * s))) (sym (mul_assoc k s (card ks i))))
  where
    s : ℕ
    s = step ks i

-- the rest of a cell, one place more
pub rest-next : (a : List ℕ) (c i : ℕ) → c / step a i / card a i ≡ c / step a (suc i)
rest-next a c i = div-div-eq-div-mul c (step a i) (card a i) ∙ ap (λ (x : ℕ). c / x) (sym (step-next a i))

-- the cells equal to c outside condition i are those with a value put there
pub agree-put : (ks : List ℕ) (c i v : ℕ) → Positive ks → v < card ks i → T (agree_outside ks (singleton i) c (put ks c i v))
agree-put ks c i v p hv =
    value-agree ks (singleton i) c (put ks c i v) (λ j n. sym (put_other ks c i j v p hv (λ e. n (subst (λ (x : ℕ). T (has (singleton i) x)) (sym e) (has_same 0 i)))))

pub put-agree : (ks : List ℕ) (c d i : ℕ) → Positive ks → c < cells ks → d < cells ks → T (agree_outside ks (singleton i) c d) → put ks c i (value ks d i) ≡ d
put-agree ks c d i p hc hd a =
    value_inj ks p _ d (put_lt ks c i (value ks d i) p hc (value_lt ks d i p)) hd
    (λ j.
    by_equal j i
    (λ e. subst (λ (x : ℕ). value ks (put ks c i (value ks d i)) x ≡ value ks d x) (sym e) (put_same ks c i (value ks d i) p (value_lt ks d i p)))
    (λ ne.
    put_other ks c i j (value ks d i) p (value_lt ks d i p) ne ∙ agree-value ks (singleton i) c d j a (λ t. ne (singleton-has i j t))))

-- a set within the shape, by its conditions
part_in : (ks : List ℕ) (s t : ℕ) → ((i : ℕ) → i < length ks → T (has s i) → T (has t i)) → T (subset ks s t)
part_in [] s t h = tt
part_in (k ∷ ks) s t h =
    and_i (not (eqb (s % 2) 1) || eqb (t % 2) 1) (subset ks (s / 2) (t / 2)) (go (eqb (s % 2) 1) (eqb (t % 2) 1) (h 0 (omega arith))) (part_in ks (s / 2) (t / 2) (λ i l. h (suc i) (omega arith)))
  where
    go : (a b : Bool) → (T a → T b) → T (not a || b)
    go true b f = f tt
    go false b f = tt

cover_in : (ks : List ℕ) (w s t : ℕ) → ((i : ℕ) → T (has w i) → T (has s i) ⊎ T (has t i)) → T (cover ks w s t)
cover_in [] w s t h = tt
cover_in (k ∷ ks) w s t h =
    and_i (not (eqb (w % 2) 1) || (eqb (s % 2) 1 || eqb (t % 2) 1)) (cover ks (w / 2) (s / 2) (t / 2)) (go (eqb (w % 2) 1) (eqb (s % 2) 1) (eqb (t % 2) 1) (h 0)) (cover_in ks (w / 2) (s / 2) (t / 2) (λ i. h (suc i)))
  where
    go : (a b c : Bool) → (T a → T b ⊎ T c) → T (not a || (b || c))
    go false b c f = tt
    go true true c f = tt
    go true false true f = tt
    go true false false f = ⊎_elim (λ x. x) (λ x. x) (f tt)

module _ {op : ℕ → ℕ → ℕ} {R : ℕ → ℕ → Type 0} (B : Bound op R) where
  -- over one condition: along the line of its values
  pub over-line : (ks : List ℕ) (f : List ℕ) (i c : ℕ) → Positive ks → c < cells ks
      → at (over op ks (singleton i) f) c ≡ over_to op (λ v. true) (λ v. at f (put ks c i v)) (at f c) (card ks i)
  over-line ks f i c p hc =
      B.anti
      (over-bound B ks (singleton i) f c _ hc
      (λ d hd a. subst (λ (x : ℕ). R (at f x) (over_to op (λ v. true) (λ v. at f (put ks c i v)) (at f c) (card ks i))) (put-agree ks c d i p hc hd a)
      (over_to-at B (λ v. true) (λ v. at f (put ks c i v)) (at f c) (card ks i) (value ks d i) (value_lt ks d i p) tt)))
      (over_to-both B (λ v. true) (λ v. at f (put ks c i v)) (at f c) _ (card ks i) (over_self B ks (singleton i) f c hc)
      (λ v hv t. over-at B ks (singleton i) f c (put ks c i v) hc (put_lt ks c i v p hc hv) (agree-put ks c i v p hv)))

  -- tables that are equal at every cell
  pub over-same : (ks : List ℕ) (t : ℕ) (f g : List ℕ) → ((c : ℕ) → c < cells ks → at f c ≡ at g c) → over op ks t f ≡ over op ks t g
  over-same ks t f g eq = tabulate-same (cells ks) _ _ (λ c hc. go c hc (cells ks) (le_refl _))
    where
      go : (c : ℕ) → c < cells ks → (n : ℕ) → n ≤ cells ks → over_to op (agree_outside ks t c) (at f) (at f c) n ≡ over_to op (agree_outside ks t c) (at g) (at g c) n
      go c hc zero h = eq c hc
      go c hc (suc n) h = ap₂ op (go c hc n (omega arith)) (ap₂ (pick (agree_outside ks t c n)) (eq n (omega arith)) (eq c hc))

  over_ext : (ks : List ℕ) (s t : ℕ) (f g : List ℕ) → ((c : ℕ) → c < cells ks → at (over op ks s f) c ≡ at (over op ks t g) c) → over op ks s f ≡ over op ks t g
  over_ext ks s t f g h = tabulate-same (cells ks) _ _ (λ c hc. sym (at-tabulate (cells ks) _ c hc) ∙ h c hc ∙ at-tabulate (cells ks) _ c hc)

  -- over a set and one condition more
  pub over-insert : (ks : List ℕ) (f : List ℕ) (t i : ℕ) → Positive ks → over op ks (singleton i) (over op ks t f) ≡ over op ks (insert t i) f
  over-insert ks f t i p =
      over_ext ks (singleton i) (insert t i) (over op ks t f) f
      (λ c hc.
      over-over B ks (insert t i) (singleton i) t f p
      (part_in ks (singleton i) (insert t i) (λ j l h. subst (λ (x : ℕ). T (has (insert t i) x)) (sym (singleton-has i j h)) (has_same t i)))
      (part_in ks t (insert t i) (λ j l h. has_keep t i j h))
      (cover_in ks (insert t i) (singleton i) t (λ j h. ⊎_elim (λ e. inl (subst (λ (x : ℕ). T (has (singleton i) x)) (sym e) (has_same 0 i))) (λ r. inr r) (insert-has t i j h)))
      c hc)
