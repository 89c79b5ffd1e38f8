-- A split on a condition: the cells with a value of it, and which condition it takes.
use Prim.Native.Nat.{ℕ, zero, suc, ◌+◌, ◌*◌, ◌/◌, ◌%◌, ◌≤◌, ◌<◌}
use mathlib.Core.Path.{◌≡◌, refl, sym, ◌∙◌, ap, ap₂, subst}
use mathlib.Core.List.{List, [], ◌∷◌}
use mathlib.Core.Logic.{⊎_elim}
use native.Mathlib.Nat.{le_refl, le_trans, add_assoc, one-mul, mul_comm, mul_assoc, mul-add, mod-lt, mod-one, div-one, mod-eq_of_lt, div-div-eq-div-mul, not-suc-le-zero, le_of_suc-le-suc, eq-or-lt_of_le}
use native.Mathlib.Omega.{arith}
use lib.Dec.{T, leb, leb→le, le→leb, ltb, ltb→lt, lt→ltb}
use Rattle.rules.specs.Bytes.{at, tabulate}
use Rattle.rules.specs.Cell.{Positive, cells, card, present, width, lowest, most_values, value, cell, remap, put, step, has, singleton, without}
use Rattle.rules.specs.Settings.{split_condition}
use Rattle.rules.specs.Limits.{Limits, each}
use Rattle.rules.specs.Stage.{Stage, cofactor_cell, cofactor_stage}
use Rattle.rules.specs.declared.SplitOn.{SplitOn}
use Rattle.rules.specs.declared.SplitOn.TheVariants.{Lowest, MostValues}
use Rattle.laws.proofs.TestLaws.{pick_ok, by_test, by_order}
use Rattle.laws.proofs.TableLaws.{tabulate-same}
use Rattle.laws.proofs.UnionLaws.{digit_mod, digit_div}
use Rattle.laws.proofs.SetLaws.{has_same}
use Rattle.laws.proofs.CellLaws.{not-above, value_lt, cell_lt, value_cell, cell-value, value_inj, present-out, without_pos, remap-agree, remap-value, sub-without, div_below}
use Rattle.laws.proofs.LowestLaws.{without-none, without-suc, width_two, lowest_step}
use Rattle.laws.proofs.LineLaws.{put_lt, put_same, put_other, put-agree, step_pos, mod_mul}

-- the cells of the other conditions
module _ (ks : List ℕ) (i : ℕ) (p : Positive ks) where
  abbrev b : List ℕ
  b = without (singleton i) ks

  pub cofactor_lt : (k c : ℕ) → k < card ks i → cofactor_cell ks i k c < cells ks
  cofactor_lt k c hk = put_lt ks (remap b ks c) i k p (cell_lt ks (value b c) p) hk

  -- there and back
  pub cofactor-value : (k c : ℕ) → k < card ks i → value ks (cofactor_cell ks i k c) i ≡ k
  cofactor-value k c hk = put_same ks (remap b ks c) i k p hk

  pub cofactor-rest : (k c : ℕ) → k < card ks i → c < cells b → remap ks b (cofactor_cell ks i k c) ≡ c
  cofactor-rest k c hk hc =
      value_inj b q _ c (cell_lt b (value ks d) q) hc
      (λ j.
      by_test (present b j)
      (λ h.
      let out = present-out (singleton i) ks j h in
      remap-value ks b d j p q (sub-without (singleton i) ks) h
      ∙ put_other ks (remap b ks c) i j k p hk (λ e. out.0 (subst (λ (x : ℕ). T (has (singleton i) x)) (sym e) (has_same 0 i)))
      ∙ value_cell ks (value b c) j p
      ∙ mod-eq_of_lt (subst (λ (x : ℕ). value b c j < x) out.2 (value_lt b c j q)))
      (λ n. omega (arith, value_lt b (remap ks b d) j q, value_lt b c j q, not-above (card b j) n)))
    where
      d : ℕ
      d = cofactor_cell ks i k c

      q : Positive b
      q = without_pos (singleton i) ks p

  pub cofactor_of : (c : ℕ) → c < cells ks → cofactor_cell ks i (value ks c i) (remap ks b c) ≡ c
  cofactor_of c hc = put-agree ks (remap b ks (remap ks b c)) c i p (cell_lt ks _ p) hc (remap-agree ks (singleton i) c p)

-- how many there are
pub condition-cells : (ks : List ℕ) (i : ℕ) → card ks i * cells (without (singleton i) ks) ≡ cells ks
condition-cells [] i = refl
condition-cells (k ∷ ks) zero = rw (without-none ks) (ap (λ (x : ℕ). k * x) (one-mul (cells ks)))
condition-cells (k ∷ ks) (suc i) =
    ap (λ (l : List ℕ). card ks i * cells l) (without-suc i k ks)
    ∙ sym (mul_assoc (card ks i) k (cells (without (singleton i) ks)))
    ∙ ap (λ (x : ℕ). x * cells (without (singleton i) ks)) (mul_comm (card ks i) k)
    ∙ mul_assoc k (card ks i) (cells (without (singleton i) ks))
    ∙ ap (λ (x : ℕ). k * x) (condition-cells ks i)

pub condition-width : (ks : List ℕ) (i : ℕ) → T (present ks i) → suc (width (without (singleton i) ks)) ≡ width ks
condition-width [] i h = absurd h
condition-width (k ∷ ks) zero h =
    rw (without-none ks) (pick_ok (λ (x : ℕ). suc (0 + width ks) ≡ x + width ks) (ltb 1 k) 1 0 (λ b. omega arith) (λ n. absurd (n h)))
condition-width (k ∷ ks) (suc i) h =
    subst (λ (l : List ℕ). suc (width l) ≡ width (k ∷ ks)) (sym (without-suc i k ks)) (omega (arith, condition-width ks i h))

pub condition-rest : (ks : List ℕ) (i : ℕ) → Positive ks → T (present ks i) → 2 ≤ width ks → 2 ≤ cells (without (singleton i) ks)
condition-rest ks i p h w =
    width_two (without (singleton i) ks) (without_pos (singleton i) ks p) (omega (arith, condition-width ks i h))

-- The cells with value k, in steps: c % step + step × (k + card × (c / step)).
pub cofactor-step : (ks : List ℕ) (i k c : ℕ) → Positive ks → k < card ks i → c < cells (without (singleton i) ks)
    → cofactor_cell ks i k c ≡ c % step ks i + step ks i * (k + card ks i * (c / step ks i))
cofactor-step [] i k c p hk hc = omega (arith, mod-one c, div-one c)
cofactor-step (n ∷ ks) zero k c p hk hc = omega (arith, mod-one c, ap (λ (x : ℕ). n * x) (div-one c), ap (λ (x : ℕ). n * x) rest)
  where
    below : c < cells ks
    below = subst (λ (x : ℕ). c < x) (ap (λ (l : List ℕ). 1 * cells l) (without-none ks) ∙ one-mul (cells ks)) hc

    rest : remap (without (singleton 0) (n ∷ ks)) (n ∷ ks) c / n ≡ c
    rest =
        rw (without-none ks, mod-one c, div-one c)
        (digit_div n (0 % n) (cell ks (value ks c)) (mod-lt 0 p.0) ∙ cell-value ks c p.1 below)
cofactor-step (n ∷ ks) (suc i) k c p hk hc =
    let b : List ℕ = without (singleton i) ks in
    let w : ℕ = step ks i in
    let q : ℕ = card ks i in
    ap (λ (l : List ℕ). put (n ∷ ks) (remap l (n ∷ ks) c) (suc i) k) (without-suc i n ks)
    ∙ ap₂ (λ (a e : ℕ). a + n * put ks e i k) (digit_mod n (c % n % n) (remap b ks (c / n)) (mod-lt (c % n) p.0) ∙ mod-eq_of_lt (mod-lt c p.0))
    (digit_div n (c % n % n) (remap b ks (c / n)) (mod-lt (c % n) p.0))
    ∙ ap (λ (x : ℕ). c % n + n * x)
    (cofactor-step ks i k (c / n) p.1 hk (div_below c n (cells b) p.0 (subst (λ (l : List ℕ). c < cells l) (without-suc i n ks) hc)))
    ∙ ap (λ (x : ℕ). c % n + n * (c / n % w + w * (k + q * x))) (div-div-eq-div-mul c n w)
    ∙ ap (λ (x : ℕ). c % n + x) (mul-add n (c / n % w) _ ∙ ap (λ (x : ℕ). n * (c / n % w) + x) (sym (mul_assoc n w _)))
    ∙ sym (add_assoc (c % n) (n * (c / n % w)) _)
    ∙ ap (λ (x : ℕ). x + n * w * (k + q * (c / (n * w)))) (sym (mod_mul c n w p.0 (step_pos ks i p.1)))

-- of the lowest condition they are k + card × c
pub cofactor-lowest : (ks : List ℕ) (k c : ℕ) → Positive ks → 1 ≤ width ks → k < card ks (lowest ks) → c < cells (without (singleton (lowest ks)) ks)
    → cofactor_cell ks (lowest ks) k c ≡ k + card ks (lowest ks) * c
cofactor-lowest ks k c p h hk hc =
    let n : ℕ = card ks (lowest ks) in
    cofactor-step ks (lowest ks) k c p hk hc
    ∙ ap (λ (w : ℕ). c % w + w * (k + n * (c / w))) (lowest_step ks p h)
    ∙ omega (arith, mod-one c, ap (λ (x : ℕ). n * x) (div-one c))

pub cofactor_strided : (x : Stage) (k : ℕ) → Positive x.ks → 1 ≤ width x.ks → k < card x.ks (lowest x.ks)
    → let b = without (singleton (lowest x.ks)) x.ks in
    cofactor_stage (lowest x.ks) k x ≡ record { ks = b; limits = each (λ f. tabulate (cells b) (λ c. at f (k + card x.ks (lowest x.ks) * c))) x.limits }
cofactor_strided x k p h hk = ap₂ (λ (a b : List ℕ). stage (lims a b)) (same x.limits.lower) (same x.limits.upper)
  where
    b : List ℕ
    b = without (singleton (lowest x.ks)) x.ks

    stage : Limits → Stage
    stage l = record { ks = without (singleton (lowest x.ks)) x.ks; limits = l }

    lims : List ℕ → List ℕ → Limits
    lims a b = record { lower = a; upper = b }

    same : (f : List ℕ) → tabulate (cells (without (singleton (lowest x.ks)) x.ks)) (λ c. at f (cofactor_cell x.ks (lowest x.ks) k c))
        ≡ tabulate (cells (without (singleton (lowest x.ks)) x.ks)) (λ c. at f (k + card x.ks (lowest x.ks) * c))
    same f = tabulate-same (cells (without (singleton (lowest x.ks)) x.ks)) _ _ (λ c hc. ap (at f) (cofactor-lowest x.ks k c p h hk hc))

-- Which condition a split takes.
-- none has more values
pub most-greatest : (ks : List ℕ) (j : ℕ) → card ks j ≤ card ks (most_values ks)
most-greatest [] j = le_refl 1
most-greatest (k ∷ ks) j =
    pick_ok (λ (i : ℕ). card (k ∷ ks) j ≤ card (k ∷ ks) i) (leb (card ks (most_values ks)) k) 0 (suc (most_values ks))
    (λ b. yes j (most-greatest ks) (leb→le _ _ b))
    (λ n. no j (most-greatest ks) (λ h. n (le→leb _ _ h)))
  where
    yes : (j : ℕ) → ((j : ℕ) → card ks j ≤ card ks (most_values ks)) → card ks (most_values ks) ≤ k → card (k ∷ ks) j ≤ k
    yes zero r h = le_refl k
    yes (suc j) r h = le_trans (r j) h

    no : (j : ℕ) → ((j : ℕ) → card ks j ≤ card ks (most_values ks)) → (card ks (most_values ks) ≤ k → ⊥) → card (k ∷ ks) j ≤ card ks (most_values ks)
    no zero r h = by_order (card ks (most_values ks)) k (λ le. absurd (h le)) (λ lt. omega arith)
    no (suc j) r h = r j

-- and those before it have fewer
pub most-first : (ks : List ℕ) (j : ℕ) → j < most_values ks → card ks j < card ks (most_values ks)
most-first [] j = λ h. absurd (not-suc-le-zero h)
most-first (k ∷ ks) j =
    pick_ok (λ (i : ℕ). j < i → card (k ∷ ks) j < card (k ∷ ks) i) (leb (card ks (most_values ks)) k) 0 (suc (most_values ks))
    (λ b h. absurd (not-suc-le-zero h)) (λ n. go j (most-first ks) (λ h. n (le→leb _ _ h)))
  where
    go : (j : ℕ) → ((j : ℕ) → j < most_values ks → card ks j < card ks (most_values ks)) → (card ks (most_values ks) ≤ k → ⊥) → j < suc (most_values ks) → card (k ∷ ks) j < card ks (most_values ks)
    go zero r n h = by_order (card ks (most_values ks)) k (λ le. absurd (n le)) (λ lt. lt)
    go (suc j) r n h = r j (le_of_suc-le-suc h)

low-present : (ks : List ℕ) → 1 ≤ width ks → T (present ks (lowest ks))
low-present [] h = absurd (not-suc-le-zero h)
low-present (k ∷ ks) h =
    pick_ok (λ (i : ℕ). T (present (k ∷ ks) i)) (ltb 1 k) 0 (suc (lowest ks)) (λ b. b)
    (λ n. low-present ks (pick_ok (λ (x : ℕ). 1 ≤ x + width ks → 1 ≤ width ks) (ltb 1 k) 1 0 (λ b. absurd (n b)) (λ o q. omega arith) h))

pub split-present : (on : SplitOn) (ks : List ℕ) → 1 ≤ width ks → T (present ks (split_condition on ks))
split-present Lowest ks h = low-present ks h
split-present MostValues ks h =
    lt→ltb 1 (card ks (most_values ks)) (le_trans (ltb→lt 1 (card ks (lowest ks)) (low-present ks h)) (most-greatest ks (lowest ks)))

-- what a search for it has found
pub most-at : (ks : List ℕ) (i : ℕ) → ((j : ℕ) → card ks j ≤ card ks i) → ((j : ℕ) → j < i → card ks j < card ks i) → most_values ks ≡ i
most-at ks i most first =
    by_order (most_values ks) i
    (λ le. ⊎_elim (λ e. e) (λ lt. absurd (omega (arith, first (most_values ks) lt, most-greatest ks i))) (eq-or-lt_of_le le))
    (λ lt. absurd (omega (arith, most-first ks i lt, most (most_values ks))))
