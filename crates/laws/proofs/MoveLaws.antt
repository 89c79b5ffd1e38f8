-- The cell map between places: from the lowest places on, by runs of cells, and from one cell to the next.
use Prim.Native.Nat.{ℕ, zero, suc, ◌+◌, ◌-◌, ◌*◌, ◌/◌, ◌%◌, ◌≤◌, ◌<◌}
use mathlib.Core.Path.{◌≡◌, refl, sym, ◌∙◌, ap, ap₂, subst}
use mathlib.Core.Bool.{Bool, true, false}
use mathlib.Core.List.{List, [], ◌∷◌}
use native.Mathlib.Nat.{zero-add, add_assoc, one-mul, mul-zero, mul_comm, mul_assoc, mul-add, mul-suc, le_refl, mod-lt, mod-one, zero-mod, zero-div, div-one, mod-eq_of_lt, mod-add-div, not-suc-le-zero, le_of_suc-le-suc}
use native.Mathlib.Numerals.{add-one}
use native.Mathlib.Omega.{arith}
use lib.ListN.{length, get_or, drop}
use Rattle.rules.specs.Bytes.{pick}
use Rattle.rules.specs.Cell.{Positive, cells, step, cell, value, remap}
use Rattle.laws.proofs.CellLaws.{div_below, cell_lt}
use Rattle.laws.proofs.LoopLaws.{step-more}
use Rattle.laws.proofs.TestLaws.{by_order}
use Rattle.laws.proofs.UnionLaws.{digit_mod, digit_div, digit-below}

-- the cell map of the places from i on
abbrev on : ℕ → List ℕ → List ℕ → ℕ → ℕ
on i b a x = remap (drop i b) (drop i a) x

remap-suc : (i : ℕ) (b a : List ℕ) (x : ℕ) → i < length b → i < length a → on i b a x ≡ x % get_or b i 0 % get_or a i 0 + get_or a i 0 * on (suc i) b a (x / get_or b i 0)
remap-suc i [] a x h g = absurd (not-suc-le-zero h)
remap-suc i (k ∷ b) [] x h g = absurd (not-suc-le-zero g)
remap-suc zero (k ∷ b) (l ∷ a) x h g = refl
remap-suc (suc i) (k ∷ b) (l ∷ a) x h g = remap-suc i b a x (le_of_suc-le-suc h) (le_of_suc-le-suc g)

-- its lowest place, and those behind
remap-place : (i : ℕ) (b a : List ℕ) (x : ℕ) → i < length b → i < length a → on i b a x ≡ x % get_or b i 0 % get_or a i 0 + get_or a i 0 * on (i + 1) b a (x / get_or b i 0)
remap-place i b a x h g = rw (add-one i) (remap-suc i b a x h g)

-- past the last place
cell_past : (i : ℕ) (a : List ℕ) (v : ℕ → ℕ) → length a ≤ i → cell (drop i a) v ≡ 0
cell_past zero [] v h = refl
cell_past (suc i) [] v h = refl
cell_past zero (l ∷ a) v h = absurd (not-suc-le-zero h)
cell_past (suc i) (l ∷ a) v h = cell_past i a v (le_of_suc-le-suc h)

-- of the first cell
value-first : (ks : List ℕ) (i : ℕ) → value ks 0 i ≡ 0
value-first [] i = refl
value-first (k ∷ ks) zero = zero-mod k
value-first (k ∷ ks) (suc i) = ap (λ (c : ℕ). value ks c i) (zero-div k) ∙ value-first ks i

cell-first : (ks : List ℕ) (v : ℕ → ℕ) → ((i : ℕ) → v i ≡ 0) → cell ks v ≡ 0
cell-first [] v h = refl
cell-first (k ∷ ks) v h =
    ap₂ (λ (x y : ℕ). x % k + k * y) (h 0) (cell-first ks (λ i. v (suc i)) (λ i. h (suc i))) ∙ ap₂ (λ (x y : ℕ). x + y) (zero-mod k) (mul-zero k)

pub remap-first : (i : ℕ) (b a : List ℕ) → on i b a 0 ≡ 0
remap-first i b a = cell-first (drop i a) (value (drop i b) 0) (value-first (drop i b))

cell-on_lt : (i : ℕ) (a : List ℕ) (v : ℕ → ℕ) → Positive a → step a i * cell (drop i a) v < cells a
cell-on_lt zero [] v p = le_refl 1
cell-on_lt (suc i) [] v p = le_refl 1
cell-on_lt zero (l ∷ a) v p = rw (one-mul (cell (l ∷ a) v)) (cell_lt (l ∷ a) v p)
cell-on_lt (suc i) (l ∷ a) v p =
    omega (arith, mul_assoc l (step a i) (cell (drop i a) v), digit-below l 0 (step a i * cell (drop i a) v) (cells a) p.0 (cell-on_lt i a v p.1))

-- the lowest i places, of s cells in b and t in a, are a run: cell o of it is cell o of one in a, or the first one
abbrev pub Reads : Bool → List ℕ → List ℕ → ℕ → ℕ → ℕ → Type 0
Reads along b a i s t = (r o : ℕ) → o < s → remap b a (o + s * r) ≡ pick along o 0 + t * on i b a r

pub reads_none : (along : Bool) (b a : List ℕ) → Reads along b a 0 1 1
reads_none along b a r o h =
    let e : o + 1 * r ≡ r = omega arith in
    ap (remap b a) e ∙ sym (ap₂ (λ (x y : ℕ). x + y) (none along o (omega arith)) (one-mul (remap b a r)) ∙ zero-add (remap b a r))
  where
    none : (along : Bool) (o : ℕ) → o ≡ 0 → pick along o 0 ≡ 0
    none true o e = e
    none false o e = refl

module _ (b a : List ℕ) (i t : ℕ) (hb : i < length b) (ha : i < length a) where
  abbrev k : ℕ
  k = get_or b i 0

  abbrev l : ℕ
  l = get_or a i 0

  -- a cell's part from place i on, by its value there
  place-on : (x v q : ℕ) → v < k → x ≡ v + k * q → t * on i b a x ≡ v % l * t + t * l * on (i + 1) b a q
  place-on x v q h e =
      let y : ℕ = on (i + 1) b a q in
      let value-is : x % k ≡ v = ap (λ (z : ℕ). z % k) e ∙ digit_mod k v q h in
      let rest-is : x / k ≡ q = ap (λ (z : ℕ). z / k) e ∙ digit_div k v q h in
      let digit : on i b a x ≡ v % l + l * y = remap-place i b a x hb ha ∙ ap₂ (λ (u z : ℕ). u % l + l * on (i + 1) b a z) value-is rest-is in
      ap (λ (z : ℕ). t * z) digit ∙ omega (arith, mul-add t (v % l) (l * y), mul_assoc t l y, mul_comm t (v % l))

  module _ (s : ℕ) (p : 0 < s) where
    more : (along : Bool) → ((o v : ℕ) → o < s → v < k → pick along o 0 + v % l * t ≡ pick along (o + s * v) 0) → Reads along b a i s t → Reads along b a (i + 1) (s * k) (t * l)
    more along adds reads r o h =
        let u = o % s in
        let v = o / s in
        let hv : v < k = div_below o s k p h in
        let e : o ≡ u + s * v = sym (mod-add-div o s) in
        let x : ℕ = on (i + 1) b a r in
        let split : o + s * k * r ≡ u + s * (v + k * r) = omega (arith, e, mul-add s v (k * r), mul_assoc s k r) in
        ap (remap b a) split
        ∙ reads (v + k * r) u (mod-lt o p)
        ∙ ap (λ (y : ℕ). pick along u 0 + y) (place-on (v + k * r) v r hv refl)
        ∙ sym (add_assoc (pick along u 0) (v % l * t) (t * l * x))
        ∙ ap (λ (y : ℕ). y + t * l * x) (adds u v (mod-lt o p) hv ∙ ap (λ (y : ℕ). pick along y 0) (sym e))

    -- one place more that is equal in both
    pub same_more : t ≡ s → k ≡ l → Reads true b a i s t → Reads true b a (i + 1) (s * k) (t * l)
    same_more es ek reads =
        more true (λ o v ho hv. ap (λ (x : ℕ). o + x) (ap₂ (λ (x y : ℕ). x * y) (mod-eq_of_lt (let e = ek in omega arith)) es ∙ mul_comm v s)) reads

    -- one that has no condition in b, or none in a
    pub other-more : (1 < k → 1 < l → ⊥) → 0 < l → Reads false b a i s t → Reads false b a (i + 1) (s * k) (t * l)
    other-more n pl reads = more false (λ o v ho hv. ap (λ (x : ℕ). 0 + x * t) (first v hv) ∙ omega arith) reads
      where
        first : (v : ℕ) → v < k → v % l ≡ 0
        first v hv =
            by_order k 1 (λ le. let e : v ≡ 0 = omega arith in ap (λ (x : ℕ). x % l) e ∙ zero-mod l)
            (λ lt. by_order l 1 (λ le. let e : l ≡ 1 = omega arith in ap (λ (x : ℕ). v % x) e ∙ mod-one v) (λ gt. absurd (n lt gt)))

-- on the way to the next cell, past the places before i: `at` is the cell's part from there on, and `goal` the next one's
pub record Turns (b a : List ℕ) (goal i rest at stp : ℕ) : Type 0 where
  pub step_is : stp ≡ step a i
  pub at-is : at ≡ stp * on i b a rest
  pub goal_is : goal ≡ stp * on i b a (rest + 1)

module _ {b a : List ℕ} {goal i rest at stp : ℕ} (x : Turns b a goal i rest at stp) where
  pub turns_low : Positive a → (at < cells a) × (goal < cells a)
  turns_low p = (rw (x.at-is, x.step_is) (cell-on_lt i a (value (drop i b) rest) p), rw (x.goal_is, x.step_is) (cell-on_lt i a (value (drop i b) (rest + 1)) p))

  -- every place is done
  pub turns_end : length a ≤ i → at ≡ goal
  turns_end h = x.at-is ∙ ap (λ (y : ℕ). stp * y) (cell_past i a _ h ∙ sym (cell_past i a _ h)) ∙ sym x.goal_is

  module _ (hb : i < length b) (ha : i < length a) (p : 0 < get_or b i 0) where
    abbrev v : ℕ
    v = rest % get_or b i 0

    abbrev q : ℕ
    q = rest / get_or b i 0

    taken : at ≡ v % get_or a i 0 * stp + stp * get_or a i 0 * on (i + 1) b a q
    taken = x.at-is ∙ place-on b a i stp hb ha rest v q (mod-lt rest p) (sym (mod-add-div rest (get_or b i 0)))

    pub turns_take : v % get_or a i 0 * stp ≤ at
    turns_take = omega (arith, taken)

    -- the value is not the last: it alone changes
    pub turns_stop : v + 1 < get_or b i 0 → at - v % get_or a i 0 * stp + (v + 1) % get_or a i 0 * stp ≡ goal
    turns_stop h =
        omega (
          arith,
          taken,
          x.goal_is,
          place-on b a i stp hb ha (rest + 1) (v + 1) q h (omega (arith, mod-add-div rest (get_or b i 0))),
        )

    -- it is: the places behind turn
    pub turns_more : get_or b i 0 ≤ v + 1 → Turns b a goal (i + 1) q (at - v % get_or a i 0 * stp) (stp * get_or a i 0)
    turns_more h =
        record {
          step_is = step-more a i stp ha x.step_is;
          at-is = omega (arith, taken);
          goal_is =
              let m : get_or b i 0 * (q + 1) ≡ get_or b i 0 * q + get_or b i 0 = rw (add-one q) (mul-suc (get_or b i 0) q) in
              let e : rest + 1 ≡ 0 + get_or b i 0 * (q + 1) = omega (arith, m, mod-add-div rest (get_or b i 0), mod-lt rest p) in
              omega (arith, x.goal_is, place-on b a i stp hb ha (rest + 1) 0 (q + 1) p e, ap (λ (y : ℕ). y * stp) (zero-mod (get_or a i 0)));
        }

    -- a place with no condition has one value only: nothing is taken, and the rest stays
    pub turns_skip : get_or b i 0 ≤ 1 → Turns b a goal (i + 1) rest at (stp * get_or a i 0)
    turns_skip h =
        let one : get_or b i 0 ≡ 1 = omega arith in
        let first : v ≡ 0 = omega (arith, mod-lt rest p) in
        let whole : q ≡ rest = ap (λ (k : ℕ). rest / k) one ∙ div-one rest in
        let nothing : v % get_or a i 0 * stp ≡ 0 * stp = ap (λ (y : ℕ). y % get_or a i 0 * stp) first ∙ ap (λ (y : ℕ). y * stp) (zero-mod (get_or a i 0)) in
        let same : at - v % get_or a i 0 * stp ≡ at = omega (arith, nothing) in
        subst (λ (y : ℕ). Turns b a goal (i + 1) y at (stp * get_or a i 0)) whole
        (subst (λ (y : ℕ). Turns b a goal (i + 1) q y (stp * get_or a i 0)) same (turns_more (omega arith)))
