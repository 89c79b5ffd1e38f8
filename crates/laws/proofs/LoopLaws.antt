-- One round more of each loop, and what a search has found.
use Prim.Native.Nat.{ℕ, zero, suc, ◌+◌, ◌*◌, ◌/◌, ◌%◌, ◌≤◌, ◌<◌}
use mathlib.Core.Path.{◌≡◌, refl, sym, ◌∙◌, ap, ap₂, subst}
use mathlib.Core.Bool.{Bool, true, false, ◌&&◌}
use mathlib.Core.List.{List, [], ◌∷◌}
use mathlib.Core.Logic.{⊎_elim}
use native.Mathlib.Numerals.{add-one}
use native.Mathlib.Nat.{div-one, mul-le-mul_left, add-zero, add_comm, add_assoc, mul_comm, mul-add, le_refl, not-suc-le-zero, le_of_suc-le-suc, eq-or-lt_of_le, mod-lt, mod-add-div}
use native.Mathlib.Omega.{arith}
use borrow.Author.Tests.{lt-ltb, le-ltb}
use lib.Dec.{T, eqb, ltb}
use lib.ListN.{length, get_or, take}
use Rattle.rules.specs.Bytes.{pick, at, numbers_from}
use Rattle.rules.specs.Cell.{Positive, cells, card, present, lowest, step, has, insert, singleton, without, over, over_to}
use Rattle.rules.specs.Stage.{Stage, drop_one, drops, Grouping, none, sets, pair_with, first_pair, add_condition, grow, grouping}
use Rattle.laws.proofs.OverLaws.{Bound}
use Rattle.laws.proofs.CellLaws.{cells_pos}
use Rattle.laws.proofs.TestLaws.{cond_ok, pick_ok}
use Rattle.laws.proofs.LineLaws.{step-next, over-line, put_step}

-- over one condition: the cells c % step + c / step / card × card × step + v × step
module _ {op : ℕ → ℕ → ℕ} {R : ℕ → ℕ → Type 0} (B : Bound op R) where
  line_same : (f g : ℕ → ℕ) (a n : ℕ) → ((v : ℕ) → v < n → f v ≡ g v) → over_to op (λ v. true) f a n ≡ over_to op (λ v. true) g a n
  line_same f g a zero h = refl
  line_same f g a (suc n) h = ap₂ op (line_same f g a n (λ v l. h v (omega arith))) (h n (omega arith))

  pub over-steps : (ks : List ℕ) (f : List ℕ) (i c : ℕ) → Positive ks → c < cells ks
      → let s = step ks i in let k = card ks i in at (over op ks (singleton i) f) c ≡ over_to op (λ v. true) (λ v. at f (c % s + c / s / k * k * s + v * s)) (at f c) k
  over-steps ks f i c p hc =
      over-line B ks f i c p hc
      ∙ line_same _ _ (at f c) (card ks i) (λ v hv. ap (at f) (put_step ks c i v p hv ∙ exchange_for (c % step ks i) (step ks i) v (card ks i) (c / step ks i / card ks i)))
    where
      exchange_for : (a s v k q : ℕ) → a + s * (v + k * q) ≡ a + q * k * s + v * s
      exchange_for a s v k q =
          ap (λ (x : ℕ). a + x) (mul-add s v (k * q) ∙ ap₂ (λ (x y : ℕ). x + y) (mul_comm s v) (mul_comm s (k * q) ∙ ap (λ (x : ℕ). x * s) (mul_comm k q)) ∙ add_comm (v * s) (q * k * s))
          ∙ sym (add_assoc a (q * k * s) (v * s))

-- sets: adding a condition that is not there is adding its bit
abbrev pub bit : ℕ → ℕ
bit zero = 1
bit (suc i) = 2 * bit i

pub insert-bit : (s i : ℕ) → (T (has s i) → ⊥) → insert s i ≡ s + bit i
insert-bit s zero n = go (s % 2) (mod-lt s (omega arith)) (mod-add-div s 2) n
  where
    go : (r : ℕ) → r < 2 → r + 2 * (s / 2) ≡ s → (T (eqb r 1) → ⊥) → 1 + 2 * (s / 2) ≡ s + 1
    go zero h e n = omega arith
    go (suc zero) h e n = absurd (n tt)
    go (suc (suc r)) h e n = absurd (omega arith)
insert-bit s (suc i) n = omega (arith, insert-bit (s / 2) i n, mod-add-div s 2)

-- a shape without a set, place by place
pub without-card : (t : ℕ) (ks : List ℕ) (i : ℕ) → i < length ks → card (without t ks) i ≡ pick (has t i) 1 (card ks i)
without-card t [] i h = absurd (not-suc-le-zero h)
without-card t (k ∷ ks) zero h = refl
without-card t (k ∷ ks) (suc i) h = without-card (t / 2) ks i (le_of_suc-le-suc h)

-- the lowest condition, when it is found; the length when there is none
pub lowest-at : (ks : List ℕ) (i : ℕ) → i ≤ length ks → ((j : ℕ) → j < i → T (present ks j) → ⊥) → (i < length ks → T (present ks i)) → lowest ks ≡ i
lowest-at [] i h n f = omega arith
lowest-at (k ∷ ks) zero h n f = pick_ok (λ (x : ℕ). x ≡ 0) (ltb 1 k) 0 (suc (lowest ks)) (λ b. refl) (λ o. absurd (o (f (omega arith))))
lowest-at (k ∷ ks) (suc i) h n f =
    pick_ok (λ (x : ℕ). x ≡ suc i) (ltb 1 k) 0 (suc (lowest ks)) (λ b. absurd (n 0 (omega arith) b))
    (λ o. ap suc (lowest-at ks i (le_of_suc-le-suc h) (λ j l. n (suc j) (omega arith)) (λ l. f (omega arith))))

-- 1. one round more of dropping
pub drops-next : (a n : ℕ) (x : Stage) → drops (numbers_from a (suc n)) x ≡ drop_one (a + n) (drops (numbers_from a n) x)
drops-next a zero x = ap (λ (i : ℕ). drop_one i x) (sym (add-zero a))
drops-next a (suc n) x =
    let e : suc a + n ≡ a + suc n = omega arith in
    drops-next (suc a) n (drop_one a x) ∙ ap (λ (i : ℕ). drop_one i (drops (numbers_from (suc a) n) (drop_one a x))) e

module _ (is : ℕ → Bool) (joins : ℕ → ℕ → Bool) where
  -- 3. one round more of growing
  pub grow-next : (a n : ℕ) (g : Grouping) → grow is joins (numbers_from a (suc n)) g ≡ add_condition is joins (a + n) (grow is joins (numbers_from a n) g)
  grow-next a zero g = ap (λ (i : ℕ). add_condition is joins i g) (sym (add-zero a))
  grow-next a (suc n) g =
      let e : suc a + n ≡ a + suc n = omega arith in
      grow-next (suc a) n (add_condition is joins a g) ∙ ap (λ (i : ℕ). add_condition is joins i (grow is joins (numbers_from (suc a) n) (add_condition is joins a g))) e

  -- the search: a pair joins
  abbrev pub Pair : ℕ → ℕ → Bool
  Pair i j = is i && (is j && joins (singleton i) (singleton j))

  pair_none : (i a n : ℕ) (other : Grouping) → ((j : ℕ) → a ≤ j → j < a + n → T (Pair i j) → ⊥) → pair_with is joins i (numbers_from a n) other ≡ other
  pair_none i a zero other h = refl
  pair_none i a (suc n) other h =
      cond_ok (λ (g : Grouping). g ≡ other) (Pair i a) _ _ (λ b. absurd (h a (le_refl a) (omega arith) b)) (λ b. pair_none i (suc a) n other (λ j l k. h j (omega arith) (omega arith)))

  pair_at : (i a n : ℕ) (other : Grouping) (j : ℕ) → a ≤ j → j < a + n → T (Pair i j) → ((k : ℕ) → a ≤ k → k < j → T (Pair i k) → ⊥) → pair_with is joins i (numbers_from a n) other ≡ sets (singleton i) (singleton j)
  pair_at i a zero other j l k t h = absurd (omega arith)
  pair_at i a (suc n) other j l k t h =
      cond_ok (λ (g : Grouping). g ≡ sets (singleton i) (singleton j)) (Pair i a) _ _
      (λ b. ⊎_elim (λ e. ap (λ (z : ℕ). sets (singleton i) (singleton z)) e) (λ lt. absurd (h a (le_refl a) lt b)) (eq-or-lt_of_le l))
      (λ b. ⊎_elim (λ e. absurd (b (subst (λ (z : ℕ). T (Pair i z)) (sym e) t))) (λ lt. pair_at i (suc a) n other j lt (omega arith) t (λ z x y. h z (omega arith) y)) (eq-or-lt_of_le l))

  -- no pair joins
  pub first-none : (a n : ℕ) → ((i j : ℕ) → a ≤ i → i < j → j < a + n → T (Pair i j) → ⊥) → first_pair is joins (numbers_from a n) ≡ none
  first-none a zero h = refl
  first-none a (suc n) h =
      pair_none a (suc a) n _ (λ j l k. h a j (le_refl a) l (omega arith)) ∙ first-none (suc a) n (λ i j l k q. h i j (omega arith) k (omega arith))

  -- and there is nothing to grow
  grow-none : (js : List ℕ) → grow is joins js none ≡ none
  grow-none [] = refl
  grow-none (i ∷ js) = grow-none js

  pub grouping-none : (a n : ℕ) → ((i j : ℕ) → a ≤ i → i < j → j < a + n → T (Pair i j) → ⊥) → grouping is joins (numbers_from a n) ≡ none
  grouping-none a n h = ap (grow is joins (numbers_from a n)) (first-none a n h) ∙ grow-none (numbers_from a n)

  -- i and j join, and no pair before them
  pub first-at : (a n i j : ℕ) → a ≤ i → i < j → j < a + n → T (Pair i j) → ((k : ℕ) → i < k → k < j → T (Pair i k) → ⊥)
      → ((h k : ℕ) → a ≤ h → h < i → h < k → k < a + n → T (Pair h k) → ⊥) → first_pair is joins (numbers_from a n) ≡ sets (singleton i) (singleton j)
  first-at a zero i j l k q t x y = absurd (omega arith)
  first-at a (suc n) i j l k q t x y =
      ⊎_elim
      (λ e. pair_at a (suc a) n _ j (omega arith) (omega arith) (subst (λ (z : ℕ). T (Pair z j)) (sym e) t) (λ z u v w. x z (omega arith) v (subst (λ (r : ℕ). T (Pair r z)) e w))
      ∙ ap (λ (z : ℕ). sets (singleton z) (singleton j)) e)
      (λ lt.
      pair_none a (suc a) n _ (λ z u v. y a z (le_refl a) lt (omega arith) (omega arith))
      ∙ first-at (suc a) n i j lt k (omega arith) t x (λ b z u v w r. y b z (omega arith) v w (omega arith)))
      (eq-or-lt_of_le l)

-- loops over arrays of eight cardinalities
pub step_le : (ks : List ℕ) (i : ℕ) → Positive ks → step ks i ≤ cells ks
step_le [] i p = le_refl 1
step_le (k ∷ ks) zero p = cells_pos (k ∷ ks) p
step_le (k ∷ ks) (suc i) p = mul-le-mul_left k (step_le ks i p.1)

pub card_read : (ks : List ℕ) (i : ℕ) → i < length ks → get_or ks i 0 ≡ card ks i
card_read [] i h = absurd (not-suc-le-zero h)
card_read (k ∷ ks) zero h = refl
card_read (k ∷ ks) (suc i) h = card_read ks i (le_of_suc-le-suc h)

-- whether a place has a condition, by its cardinality
pub is_absent : (ks : List ℕ) (i : ℕ) → i < length ks → get_or ks i 0 < 2 → present ks i ≡ false
is_absent ks i h l = le-ltb 1 (card ks i) (omega (arith, card_read ks i h))

pub is-present : (ks : List ℕ) (i : ℕ) → i < length ks → 2 ≤ get_or ks i 0 → present ks i ≡ true
is-present ks i h l = lt-ltb 1 (card ks i) (omega (arith, card_read ks i h))

-- the step of the next place
pub step-more : (ks : List ℕ) (i stp : ℕ) → i < length ks → stp ≡ step ks i → stp * get_or ks i 0 ≡ step ks (i + 1)
step-more ks i stp h e = rw (add-one i, step-next ks i, card_read ks i h, e)

pub take_whole : (ks : List ℕ) (i : ℕ) → length ks ≡ i → take i ks ≡ ks
take_whole [] zero e = refl
take_whole [] (suc i) e = refl
take_whole (k ∷ ks) zero e = absurd (omega arith)
take_whole (k ∷ ks) (suc i) e = ap (λ (l : List ℕ). k ∷ l) (take_whole ks i (omega arith))

pub step_start : (ks : List ℕ) → step ks 0 ≡ 1
step_start [] = refl
step_start (k ∷ ks) = refl

pub step-none : (ks : List ℕ) (c : ℕ) → c / step ks 0 ≡ c
step-none ks c = ap (λ (x : ℕ). c / x) (step_start ks) ∙ div-one c
