-- The lowest condition of a shape: no condition stands before it, so it is the cell number's first digit.
use Prim.Native.Nat.{ℕ, zero, suc, ◌+◌, ◌*◌, ◌/◌, ◌%◌, ◌≤◌, ◌<◌}
use mathlib.Core.Path.{◌≡◌, refl, sym, ◌∙◌, ap, ap₂, subst}
use mathlib.Core.List.{List, [], ◌∷◌}
use native.Mathlib.Nat.{le_refl, le_trans, le_antisymm, mod-one, div-one, one-mul, mul-one, zero-add, not-suc-le-zero, mul-le-mul_left, mul-le-mul_right, mod-add-div}
use native.Mathlib.Omega.{arith}
use lib.ListN.{length, set, get_or-eq_default}
use lib.Dec.{T, eqb, ltb, ltb→lt, lt→ltb}
use Rattle.rules.specs.Bytes.{pick}
use Rattle.rules.specs.Cell.{Positive, cells, card, present, width, lowest, value, cell, remap, step, singleton, without}
use Rattle.laws.proofs.UnionLaws.{digit_mod, digit_div}
use Rattle.laws.proofs.TestLaws.{pick_ok, by_order}
use Rattle.laws.proofs.CellLaws.{present_lt, not-above, div_below, cells_pos, cell_lt, cell-value, without_pos, twice}

-- the shape without one condition
pub without-none : (ks : List ℕ) → without 0 ks ≡ ks
without-none [] = refl
without-none (k ∷ ks) = ap (λ (l : List ℕ). k ∷ l) (without-none ks)

pub without-suc : (i k : ℕ) (ks : List ℕ) → without (singleton (suc i)) (k ∷ ks) ≡ k ∷ without (singleton i) ks
without-suc i k ks =
    ap₂ (λ (a s : ℕ). pick (eqb a 1) 1 k ∷ without s ks) (digit_mod 2 0 (singleton i) (omega arith)) (digit_div 2 0 (singleton i) (omega arith))

pub set-without : (ks : List ℕ) (i : ℕ) → i < length ks → set ks i 1 ≡ without (singleton i) ks
set-without [] i h = absurd (omega arith)
set-without (k ∷ ks) zero h = ap (λ (l : List ℕ). 1 ∷ l) (sym (without-none ks))
set-without (k ∷ ks) (suc i) h = ap (λ (l : List ℕ). k ∷ l) (set-without ks i (omega arith)) ∙ sym (without-suc i k ks)

pub present-width : (ks : List ℕ) (i : ℕ) → T (present ks i) → 1 ≤ width ks
present-width [] i h = absurd h
present-width (k ∷ ks) zero h = pick_ok (λ (x : ℕ). 1 ≤ x + width ks) (ltb 1 k) 1 0 (λ b. omega arith) (λ n. absurd (n h))
present-width (k ∷ ks) (suc i) h = omega (arith, present-width ks i h)

pub no_width : (ks : List ℕ) → Positive ks → width ks ≡ 0 → cells ks ≡ 1
no_width [] p e = refl
no_width (k ∷ ks) p e =
    pick_ok (λ (x : ℕ). x + width ks ≡ 0 → k * cells ks ≡ 1) (ltb 1 k) 1 0 (λ b q. absurd (omega arith))
    (λ n q. ap₂ (λ (a b : ℕ). a * b) (le_antisymm (not-above k n) p.0) (no_width ks p.1 (omega arith))) e

pub width_two : (ks : List ℕ) → Positive ks → 1 ≤ width ks → 2 ≤ cells ks
width_two [] p h = absurd (not-suc-le-zero h)
width_two (k ∷ ks) p h =
    pick_ok (λ (x : ℕ). 1 ≤ x + width ks → 2 ≤ k * cells ks) (ltb 1 k) 1 0
    (λ b q. twice k (cells ks) 1 (ltb→lt 1 k b) (cells_pos ks p.1))
    (λ n q. le_trans (omega (arith, width_two ks p.1 (omega arith))) (mul-le-mul_right (cells ks) p.0)) h

-- no condition is before the lowest
pub first-lowest : (ks : List ℕ) (i : ℕ) → T (present ks i) → lowest ks ≤ i
first-lowest [] i h = absurd h
first-lowest (k ∷ ks) zero h = pick_ok (λ (x : ℕ). x ≤ 0) (ltb 1 k) 0 (suc (lowest ks)) (λ b. omega arith) (λ n. absurd (n h))
first-lowest (k ∷ ks) (suc i) h =
    pick_ok (λ (x : ℕ). x ≤ suc i) (ltb 1 k) 0 (suc (lowest ks)) (λ b. omega arith) (λ n. omega (arith, first-lowest ks i h))

-- by cases on the first place: the lowest condition, or none, its cardinality being 1
lowest_case : (k : ℕ) (ks : List ℕ) (Q : ℕ → Type 0) → 0 < k → 1 ≤ width (k ∷ ks) → (2 ≤ k → Q 0) → (k ≡ 1 → 1 ≤ width ks → Q (suc (lowest ks))) → Q (lowest (k ∷ ks))
lowest_case k ks Q p h f g =
    pick_ok Q (ltb 1 k) 0 (suc (lowest ks)) (λ b. f (ltb→lt 1 k b))
    (λ n. g (le_antisymm (not-above k n) p) (pick_ok (λ (x : ℕ). 1 ≤ x + width ks → 1 ≤ width ks) (ltb 1 k) 1 0 (λ b. absurd (n b)) (λ m q. omega arith) h))

-- no step before it
pub lowest_step : (ks : List ℕ) → Positive ks → 1 ≤ width ks → step ks (lowest ks) ≡ 1
lowest_step [] p h = absurd (not-suc-le-zero h)
lowest_step (k ∷ ks) p h =
    lowest_case k ks (λ (i : ℕ). step (k ∷ ks) i ≡ 1) p.0 h (λ q. refl)
    (λ e q. ap₂ (λ (a b : ℕ). a * b) e (lowest_step ks p.1 q))

pub lowest-two : (ks : List ℕ) → Positive ks → 1 ≤ width ks → 2 ≤ card ks (lowest ks)
lowest-two [] p h = absurd (not-suc-le-zero h)
lowest-two (k ∷ ks) p h = lowest_case k ks (λ (i : ℕ). 2 ≤ card (k ∷ ks) i) p.0 h (λ q. q) (λ e q. lowest-two ks p.1 q)

pub lowest-cells : (ks : List ℕ) → Positive ks → 1 ≤ width ks → card ks (lowest ks) * cells (without (singleton (lowest ks)) ks) ≡ cells ks
lowest-cells [] p h = absurd (not-suc-le-zero h)
lowest-cells (k ∷ ks) p h =
    lowest_case k ks (λ (i : ℕ). card (k ∷ ks) i * cells (without (singleton i) (k ∷ ks)) ≡ k * cells ks) p.0 h
    (λ q. rw (without-none ks) (ap (λ (x : ℕ). k * x) (one-mul (cells ks))))
    (λ e q. subst (λ (b : List ℕ). card ks (lowest ks) * cells b ≡ k * cells ks) (sym (without-suc (lowest ks) k ks)) (rw e (ap (λ (x : ℕ). card ks (lowest ks) * x) (one-mul _) ∙ lowest-cells ks p.1 q ∙ sym (one-mul (cells ks)))))

pub lowest-cell : (ks : List ℕ) (c : ℕ) → Positive ks → 1 ≤ width ks → c < cells ks
    → value ks c (lowest ks) + card ks (lowest ks) * remap ks (without (singleton (lowest ks)) ks) c ≡ c
lowest-cell [] c p h hc = absurd (not-suc-le-zero h)
lowest-cell (k ∷ ks) c p h hc =
    lowest_case k ks (λ (i : ℕ). value (k ∷ ks) c i + card (k ∷ ks) i * remap (k ∷ ks) (without (singleton i) (k ∷ ks)) c ≡ c) p.0 h
    (λ q.
    rw (without-none ks)
    (ap₂ (λ (a b : ℕ). c % k + k * (a + b)) (mod-one (c % k)) (one-mul (cell ks (value ks (c / k))) ∙ cell-value ks (c / k) p.1 (div_below c k (cells ks) p.0 hc))
    ∙ ap (λ (x : ℕ). c % k + k * x) (zero-add (c / k)) ∙ mod-add-div c k))
    (λ e q.
    subst (λ (b : List ℕ). value ks (c / k) (lowest ks) + card ks (lowest ks) * remap (k ∷ ks) b c ≡ c) (sym (without-suc (lowest ks) k ks)) (go k e (lowest-cell ks c p.1 q (omega (arith, ap (λ (x : ℕ). x * cells ks) e)))))
  where
    go : (k : ℕ) → k ≡ 1 → value ks c (lowest ks) + card ks (lowest ks) * remap ks (without (singleton (lowest ks)) ks) c ≡ c
        → value ks (c / k) (lowest ks) + card ks (lowest ks) * (c % k % k + k * cell (without (singleton (lowest ks)) ks) (value ks (c / k))) ≡ c
    go k e r = rw (e, div-one c, mod-one c) (simp (one-mul, zero-add) r)

-- the rest of a shape with one condition more
pub lowest-present : (ks : List ℕ) → Positive ks → 1 ≤ width ks → T (present ks (lowest ks))
lowest-present ks p h = lt→ltb 1 (card ks (lowest ks)) (lowest-two ks p h)

pub lowest-width : (ks : List ℕ) → Positive ks → 1 ≤ width ks → suc (width (without (singleton (lowest ks)) ks)) ≡ width ks
lowest-width [] p h = absurd (not-suc-le-zero h)
lowest-width (k ∷ ks) p h =
    lowest_case k ks (λ (i : ℕ). suc (width (without (singleton i) (k ∷ ks))) ≡ width (k ∷ ks)) p.0 h
    (λ q.
    rw (without-none ks)
    (pick_ok (λ (x : ℕ). suc (0 + width ks) ≡ x + width ks) (ltb 1 k) 1 0 (λ b. omega arith) (λ n. absurd (n (lt→ltb 1 k q)))))
    (λ e q.
    subst (λ (b : List ℕ). suc (width b) ≡ width (k ∷ ks)) (sym (without-suc (lowest ks) k ks)) (omega (arith, lowest-width ks p.1 q)))

pub lowest-fewer : (ks : List ℕ) → Positive ks → 1 ≤ width ks → width (without (singleton (lowest ks)) ks) < width ks
lowest-fewer ks p h = omega (arith, lowest-width ks p h)

-- one condition left: the cells are its values
module _ (ks : List ℕ) (p : Positive ks) (e : width ks ≡ 1) where
  one-rest : cells (without (singleton (lowest ks)) ks) ≡ 1
  one-rest = no_width (without (singleton (lowest ks)) ks) (without_pos (singleton (lowest ks)) ks p) (omega (arith, lowest-fewer ks p (omega arith)))

  pub one-cells : card ks (lowest ks) ≡ cells ks
  one-cells = sym (mul-one _) ∙ ap (λ (x : ℕ). card ks (lowest ks) * x) (sym one-rest) ∙ lowest-cells ks p (omega arith)

  pub one_value : (c : ℕ) → c < cells ks → value ks c (lowest ks) ≡ c
  one_value c hc =
      let z : remap ks (without (singleton (lowest ks)) ks) c ≡ 0 = omega (arith, one-rest, cell_lt (without (singleton (lowest ks)) ks) (value ks c) (without_pos (singleton (lowest ks)) ks p)) in
      omega (arith, lowest-cell ks c p (omega arith) hc, ap (λ (x : ℕ). card ks (lowest ks) * x) z)

-- no condition or one, by the lowest condition and the number of cells
pub lowest_past : (ks : List ℕ) → width ks ≡ 0 → lowest ks ≡ length ks
lowest_past [] e = refl
lowest_past (k ∷ ks) e =
    pick_ok (λ (x : ℕ). x + width ks ≡ 0 → pick (ltb 1 k) 0 (suc (lowest ks)) ≡ suc (length ks)) (ltb 1 k) 1 0 (λ b q. absurd (omega arith))
    (λ n q. pick_ok (λ (x : ℕ). x ≡ suc (length ks)) (ltb 1 k) 0 (suc (lowest ks)) (λ b. absurd (n b)) (λ m. ap suc (lowest_past ks (omega arith)))) e

module _ (ks : List ℕ) (p : Positive ks) where
  pub none_left : length ks ≤ lowest ks → width ks ≡ 0
  none_left h = by_order 1 (width ks) (λ le. absurd (let l = present_lt ks (lowest ks) (lowest-present ks p le) in omega arith)) (λ lt. omega arith)

  pub some_left : lowest ks < length ks → 1 ≤ width ks
  some_left h = by_order 1 (width ks) (λ le. le) (λ z. absurd (let e = lowest_past ks (omega arith) in omega arith))

  pub one_left : 1 ≤ width ks → card ks (lowest ks) ≡ cells ks → width ks < 2
  one_left some e =
      by_order 2 (width ks)
      (λ le.
      let r = width_two (without (singleton (lowest ks)) ks) (without_pos (singleton (lowest ks)) ks p) (omega (arith, lowest-width ks p some)) in
      absurd (omega (arith, lowest-cells ks p some, lowest-two ks p some, mul-le-mul_left (card ks (lowest ks)) r)))
      (λ lt. lt)

  -- none left: one cell, and one value past the places
  pub none-cells : width ks ≡ 0 → card ks (lowest ks) ≡ cells ks
  none-cells e = ap (card ks) (lowest_past ks e) ∙ get_or-eq_default ks 1 (le_refl (length ks)) ∙ sym (no_width ks p e)

  -- so by the number of its values: it has as many as there are cells, or there are two conditions
  pub narrow-left : card ks (lowest ks) ≡ cells ks → width ks < 2
  narrow-left e = by_order 1 (width ks) (λ some. one_left some e) (λ none. omega arith)

  pub wide-left : (card ks (lowest ks) ≡ cells ks → ⊥) → 2 ≤ width ks
  wide-left ne =
      by_order 2 (width ks) (λ le. le)
      (λ lt. by_order 1 (width ks) (λ some. absurd (ne (one-cells ks p (omega arith)))) (λ none. absurd (ne (none-cells (omega arith)))))
