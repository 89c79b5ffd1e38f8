-- Laws of a cell's values, of the cell map between shapes, and of a cell with one value put.
use Prim.Native.Nat.{ℕ, zero, suc, ◌+◌, ◌*◌, ◌/◌, ◌%◌, ◌≤◌, ◌<◌, zero-le}
use mathlib.Core.Path.{◌≡◌, refl, sym, ◌∙◌, ap, ap₂, subst}
use mathlib.Core.Bool.{Bool, true, false, ◌||◌}
use mathlib.Core.List.{List, [], ◌∷◌}
use native.Mathlib.Nat.{mul_comm, one-mul, le_refl, le_trans, mod-lt, mod-one, mod-eq_of_lt, div-lt_iff_lt-mul, mul-le-mul_left, mul-le-mul_right, mod-add-div}
use native.Mathlib.Omega.{arith}
use lib.Dec.{T, eqb, eqb→eq, eqb_refl, ltb, ltb→lt, lt→ltb}
use lib.ListN.{length}
use Rattle.laws.proofs.TestLaws.{pick_ok, by_test}
use Rattle.laws.proofs.TableLaws.{at-tabulate}
use Rattle.laws.proofs.OverLaws.{agree_head, agree_tail, agree_cons}
use Rattle.laws.proofs.UnionLaws.{digit_mod, digit_div, digit-below}
use Rattle.rules.specs.Bytes.{pick, at}
use Rattle.rules.specs.Cell.{Blind, Positive, cells, card, present, width, value, cell, remap, has, without, moved, agree_outside}

pub div_below : (c k n : ℕ) → 0 < k → c < k * n → c / k < n
div_below c k n p h = (div-lt_iff_lt-mul p).1 (subst (λ (x : ℕ). c < x) (mul_comm k n) h)

pub not-above : (k : ℕ) → (T (ltb 1 k) → ⊥) → k ≤ 1
not-above zero n = zero-le
not-above (suc zero) n = le_refl 1
not-above (suc (suc k)) n = absurd (n (lt→ltb 1 (suc (suc k)) (omega arith)))

-- cardinalities
pub card_pos : (ks : List ℕ) (i : ℕ) → Positive ks → 0 < card ks i
card_pos [] i p = le_refl 1
card_pos (k ∷ ks) zero p = p.0
card_pos (k ∷ ks) (suc i) p = card_pos ks i p.1

pub present_lt : (ks : List ℕ) (i : ℕ) → T (present ks i) → i < length ks
present_lt [] i h = absurd h
present_lt (k ∷ ks) zero h = omega arith
present_lt (k ∷ ks) (suc i) h = omega (arith, present_lt ks i h)

pub cells_pos : (ks : List ℕ) → Positive ks → 1 ≤ cells ks
cells_pos [] h = le_refl 1
cells_pos (k ∷ ks) h = omega (arith, mul-le-mul_right (cells ks) h.0, cells_pos ks h.1)

-- values
pub value_lt : (ks : List ℕ) (c i : ℕ) → Positive ks → value ks c i < card ks i
value_lt [] c i p = le_refl 1
value_lt (k ∷ ks) c zero p = mod-lt c p.0
value_lt (k ∷ ks) c (suc i) p = value_lt ks (c / k) i p.1

pub cell_lt : (ks : List ℕ) (v : ℕ → ℕ) → Positive ks → cell ks v < cells ks
cell_lt [] v p = le_refl 1
cell_lt (k ∷ ks) v p = digit-below k _ _ _ (mod-lt (v 0) p.0) (cell_lt ks (λ i. v (suc i)) p.1)

pub value_cell : (ks : List ℕ) (v : ℕ → ℕ) (i : ℕ) → Positive ks → value ks (cell ks v) i ≡ v i % card ks i
value_cell [] v i p = sym (mod-one (v i))
value_cell (k ∷ ks) v zero p = digit_mod k (v 0 % k) _ (mod-lt (v 0) p.0)
value_cell (k ∷ ks) v (suc i) p =
    ap (λ (c : ℕ). value ks c i) (digit_div k (v 0 % k) (cell ks (λ i. v (suc i))) (mod-lt (v 0) p.0)) ∙ value_cell ks (λ i. v (suc i)) i p.1

pub cell-value : (ks : List ℕ) (c : ℕ) → Positive ks → c < cells ks → cell ks (value ks c) ≡ c
cell-value [] c p h = omega arith
cell-value (k ∷ ks) c p h =
    ap₂ (λ (a b : ℕ). a + k * b) (mod-eq_of_lt (mod-lt c p.0)) (cell-value ks (c / k) p.1 (div_below c k (cells ks) p.0 h)) ∙ mod-add-div c k

-- two cells with the same values are one
pub value_inj : (ks : List ℕ) → Positive ks → (c d : ℕ) → c < cells ks → d < cells ks → ((i : ℕ) → value ks c i ≡ value ks d i) → c ≡ d
value_inj [] pos c d hc hd eq = omega arith
value_inj (k ∷ ks) pos c d hc hd eq =
    sym (mod-add-div c k)
    ∙ ap₂ (λ (x y : ℕ). x + k * y) (eq 0)
    (value_inj ks pos.1 (c / k) (d / k) (div_below c k (cells ks) pos.0 hc) (div_below d k (cells ks) pos.0 hd) (λ i. eq (suc i)))
    ∙ mod-add-div d k

-- cells that are equal outside a set, by their values
pub agree-value : (ks : List ℕ) (t c d i : ℕ) → T (agree_outside ks t c d) → (T (has t i) → ⊥) → value ks c i ≡ value ks d i
agree-value [] t c d i a out = refl
agree-value (k ∷ ks) t c d zero a out = go (eqb (t % 2) 1) out (agree_head k ks t c d a)
  where
    go : (o : Bool) → (T o → ⊥) → T (o || eqb (c % k) (d % k)) → c % k ≡ d % k
    go true n h = absurd (n tt)
    go false n h = eqb→eq (c % k) (d % k) h
agree-value (k ∷ ks) t c d (suc i) a out = agree-value ks (t / 2) (c / k) (d / k) i (agree_tail k ks t c d a) out

pub value-agree : (ks : List ℕ) (t c d : ℕ) → ((i : ℕ) → (T (has t i) → ⊥) → value ks c i ≡ value ks d i) → T (agree_outside ks t c d)
value-agree [] t c d eq = tt
value-agree (k ∷ ks) t c d eq = agree_cons k ks t c d (go (eqb (t % 2) 1) (eq 0)) (value-agree ks (t / 2) (c / k) (d / k) (λ i. eq (suc i)))
  where
    go : (o : Bool) → ((T o → ⊥) → c % k ≡ d % k) → T (o || eqb (c % k) (d % k))
    go true e = tt
    go false e = subst (λ (x : ℕ). T (eqb (c % k) x)) (e (λ n. n)) (eqb_refl (c % k))

-- the shape without a set
pub card_in : (t : ℕ) (ks : List ℕ) (i : ℕ) → T (has t i) → card (without t ks) i ≡ 1
card_in t [] i h = refl
card_in t (k ∷ ks) zero h = pick_ok (λ (x : ℕ). x ≡ 1) (has t 0) 1 k (λ b. refl) (λ n. absurd (n h))
card_in t (k ∷ ks) (suc i) h = card_in (t / 2) ks i h

pub card-out : (t : ℕ) (ks : List ℕ) (i : ℕ) → (T (has t i) → ⊥) → card (without t ks) i ≡ card ks i
card-out t [] i h = refl
card-out t (k ∷ ks) zero h = pick_ok (λ (x : ℕ). x ≡ k) (has t 0) 1 k (λ b. absurd (h b)) (λ n. refl)
card-out t (k ∷ ks) (suc i) h = card-out (t / 2) ks i h

-- a condition of the shape without t is one of the shape, with the same cardinality, and not in t
pub present-out : (t : ℕ) (ks : List ℕ) (i : ℕ) → T (present (without t ks) i) → (T (has t i) → ⊥) × T (present ks i) × (card (without t ks) i ≡ card ks i)
present-out t ks i h =
    by_test (has t i) (λ b. absurd (subst (λ (x : ℕ). T (ltb 1 x)) (card_in t ks i b) h))
    (λ n. (n, subst (λ (x : ℕ). T (ltb 1 x)) (card-out t ks i n) h, card-out t ks i n))

pub length_without : (t : ℕ) (ks : List ℕ) → length (without t ks) ≡ length ks
length_without t [] = refl
length_without t (k ∷ ks) = ap suc (length_without (t / 2) ks)

pub without_pos : (t : ℕ) (ks : List ℕ) → Positive ks → Positive (without t ks)
without_pos t [] p = tt
without_pos t (k ∷ ks) p = (pick_ok (λ (x : ℕ). 0 < x) (has t 0) 1 k (λ b. le_refl 1) (λ n. p.0), without_pos (t / 2) ks p.1)

-- there and back: equal outside t
pub remap-agree : (ks : List ℕ) (t c : ℕ) → Positive ks → T (agree_outside ks t (remap (without t ks) ks (remap ks (without t ks) c)) c)
remap-agree ks t c p =
    value-agree ks t _ c
    (λ i n.
    value_cell ks (value b (remap ks b c)) i p
    ∙ ap (λ (x : ℕ). x % card ks i) (value_cell b (value ks c) i (without_pos t ks p) ∙ ap (λ (x : ℕ). value ks c i % x) (card-out t ks i n) ∙ mod-eq_of_lt (value_lt ks c i p))
    ∙ mod-eq_of_lt (value_lt ks c i p))
  where
    b : List ℕ
    b = without t ks

-- every condition of b is one of a
abbrev pub Sub : List ℕ → List ℕ → Type 0
Sub b a = (i : ℕ) → T (present b i) → card b i ≡ card a i

pub sub-present : (b a : List ℕ) → Sub b a → (i : ℕ) → T (present b i) → T (present a i)
sub-present b a s i h = subst (λ (x : ℕ). T (ltb 1 x)) (s i h) h

pub sub_trans : (c b a : List ℕ) → Sub c b → Sub b a → Sub c a
sub_trans c b a s q i h = s i h ∙ q i (sub-present c b s i h)

pub sub-without : (t : ℕ) (ks : List ℕ) → Sub (without t ks) ks
sub-without t ks i h = (present-out t ks i h).2

-- the cell map keeps the values of the conditions of b
pub remap-value : (a b : List ℕ) (c i : ℕ) → Positive a → Positive b → Sub b a → T (present b i) → value b (remap a b c) i ≡ value a c i
remap-value a b c i p q s h =
    value_cell b (value a c) i q ∙ ap (λ (x : ℕ). value a c i % x) (s i h) ∙ mod-eq_of_lt (value_lt a c i p)

pub moved_at : (a b : List ℕ) (f : List ℕ) (c : ℕ) → c < cells b → at (moved a b f) c ≡ at f (remap b a c)
moved_at a b f = at-tabulate (cells b) (λ c. at f (remap b a c))

-- a table that is blind to t, moved to the shape without t, at the cell with the same values
pub moved_blind : (ks : List ℕ) (t : ℕ) (f : List ℕ) (c : ℕ) → Positive ks → Blind ks t (at f) → c < cells ks
    → at (moved ks (without t ks) f) (remap ks (without t ks) c) ≡ at f c
moved_blind ks t f c p b h =
    moved_at ks (without t ks) f _ (cell_lt (without t ks) (value ks c) (without_pos t ks p))
    ∙ b _ c (cell_lt ks _ p) h (remap-agree ks t c p)

-- fewer conditions
pub without_le : (t : ℕ) (ks : List ℕ) → width (without t ks) ≤ width ks
without_le t [] = le_refl 0
without_le t (k ∷ ks) =
    let r = without_le (t / 2) ks in
    pick_ok (λ (x : ℕ). pick (ltb 1 x) 1 0 + width (without (t / 2) ks) ≤ pick (ltb 1 k) 1 0 + width ks) (has t 0) 1 k (λ b. omega arith) (λ n. omega arith)

pub without_lt : (t : ℕ) (ks : List ℕ) (i : ℕ) → T (present ks i) → T (has t i) → width (without t ks) < width ks
without_lt t [] i h b = absurd h
without_lt t (k ∷ ks) zero h b =
    let r = without_le (t / 2) ks in
    pick_ok (λ (x : ℕ). pick (ltb 1 x) 1 0 + width (without (t / 2) ks) < pick (ltb 1 k) 1 0 + width ks) (has t 0) 1 k
    (λ y. pick_ok (λ (x : ℕ). 0 + width (without (t / 2) ks) < x + width ks) (ltb 1 k) 1 0 (λ z. omega arith) (λ z. absurd (z h))) (λ n. absurd (n b))
without_lt t (k ∷ ks) (suc i) h b =
    let r = without_lt (t / 2) ks i h b in
    pick_ok (λ (x : ℕ). pick (ltb 1 x) 1 0 + width (without (t / 2) ks) < pick (ltb 1 k) 1 0 + width ks) (has t 0) 1 k (λ y. omega arith) (λ n. omega arith)

-- and fewer cells: at most half, with a condition fewer
pub without-cells : (t : ℕ) (ks : List ℕ) → Positive ks → cells (without t ks) ≤ cells ks
without-cells t [] p = le_refl 1
without-cells t (k ∷ ks) p =
    let r = without-cells (t / 2) ks p.1 in
    pick_ok (λ (x : ℕ). x * cells (without (t / 2) ks) ≤ k * cells ks) (has t 0) 1 k
    (λ b. le_trans (mul-le-mul_left 1 r) (mul-le-mul_right (cells ks) p.0)) (λ n. mul-le-mul_left k r)

pub twice : (a b c : ℕ) → 2 ≤ a → c ≤ b → 2 * c ≤ a * b
twice a b c h g = le_trans (mul-le-mul_left 2 g) (mul-le-mul_right b h)

pub without-half : (t : ℕ) (ks : List ℕ) (i : ℕ) → Positive ks → T (present ks i) → T (has t i) → 2 * cells (without t ks) ≤ cells ks
without-half t [] i p h b = absurd h
without-half t (k ∷ ks) zero p h b =
    pick_ok (λ (x : ℕ). 2 * (x * cells (without (t / 2) ks)) ≤ k * cells ks) (has t 0) 1 k
    (λ y. rw one-mul (twice k (cells ks) _ (ltb→lt 1 k h) (without-cells (t / 2) ks p.1))) (λ n. absurd (n b))
without-half t (k ∷ ks) (suc i) p h b =
    let r = without-half (t / 2) ks i p.1 h b in
    pick_ok (λ (x : ℕ). 2 * (x * cells (without (t / 2) ks)) ≤ k * cells ks) (has t 0) 1 k
    (λ y. le_trans (omega arith) (mul-le-mul_right (cells ks) p.0)) (λ n. le_trans (omega arith) (mul-le-mul_left k r))
