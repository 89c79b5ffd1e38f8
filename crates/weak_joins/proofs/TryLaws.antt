-- The search for the weak join that is tried, and that it is the one of the rules.
use Prim.Native.Nat.{ℕ, ◌-◌, ◌*◌, ◌≤◌, ◌<◌}
use mathlib.Core.Path.{◌≡◌, refl, sym, ◌∙◌, ap, ap₂, subst, fun_ext}
use mathlib.Core.Bool.{Bool, true, false, cond, not, ◌&&◌, ◌||◌}
use mathlib.Core.List.{List}
use native.Mathlib.Omega.{arith}
use borrow.Author.Tests.{eqb-true, eqb-false, eq-eqb, ne_eqb, ltb-true, ltb-false, lt-ltb, le-ltb, le-leb, lt-leb}
use lib.Bits.{bit_and}
use lib.Dec.{T, leb, ltb, eqb}
use lib.ListN.{length}
use Rattle.rules.specs.declared.Gate.{Gate}
use Rattle.rules.specs.declared.Gate.TheVariants.{Min, Max}
use Rattle.rules.specs.Bytes.{at, numbers_from}
use Rattle.rules.specs.Cell.{cells, present, has, singleton, least_over}
use Rattle.rules.specs.Limits.{Limits}
use Rattle.rules.specs.Join.{exchange_for, weak_counts}
use Rattle.rules.specs.Stage.{Stage, nowhere, weakly, first_weak, weak_found}
use Rattle.laws.proofs.TestLaws.{passes, passed, and_l, and_r, and_i}
use Rattle.laws.proofs.TableLaws.{all_same}
use Rattle.laws.proofs.SetLaws.{has-and}
use Rattle.laws.proofs.CellLaws.{present_lt}
use Rattle.laws.proofs.GateLaws.{Good, complement-at}
use Rattle.laws.proofs.WeakLaws.{weak-none, weak-at}
use Rattle.tables.specs.Part.{part}
use Rattle.join_tables.specs.Parts.{side}
use Rattle.masks.specs.Masks.{above_least, Masked, mask_part, Known}
use Rattle.stage_drops.specs.Working.{Room, front_stage, Proper}
use Rattle.weak_joins.specs.Trying.{Common, lacking}
use Rattle.weak_joins.proofs.CommonLaws.{full_byte}
use Rattle.weak_joins.proofs.OpenLaws.{proper_good}

-- the search is at place i: below it neither gate counts
pub record Passed (counts : Gate → ℕ → Bool) (i : ℕ) : Type 0 where
  pub within : i ≤ 8
  pub none : (op : Gate) (j : ℕ) → j < i → T (counts op j) → ⊥

module _ {counts : Gate → ℕ → Bool} where
  -- what it ends with
  pub found_none : {i : ℕ} → Passed counts i → 8 ≤ i → nowhere ≡ first_weak counts (numbers_from 0 8)
  found_none p h = sym (weak-none counts 0 8 (λ op j l u. p.none op j (omega arith)))

  pub found-max : {i : ℕ} → Passed counts i → i < 8 → T (counts Max i) → weakly Max i ≡ first_weak counts (numbers_from 0 8)
  found-max {i} p h t = sym ((weak-at counts 0 8 i (omega arith) (omega arith) (λ op j l u. p.none op j u)).0 t)

  pub found-min : {i : ℕ} → Passed counts i → i < 8 → (T (counts Max i) → ⊥) → T (counts Min i) → weakly Min i ≡ first_weak counts (numbers_from 0 8)
  found-min {i} p h n t = sym ((weak-at counts 0 8 i (omega arith) (omega arith) (λ op j l u. p.none op j u)).1 n t)

-- the tests of the search
module _ (ks : List ℕ) (a b : ℕ) (op : Gate) (i : ℕ) where
  pub is-lacking : {member : Bool} → present ks i ≡ true → member ≡ has (side op a b) i → not member ≡ true → T (lacking ks a b op i)
  is-lacking e f g = and_i (present ks i) (not (has (side op a b) i)) (passes e) (passes (ap not (sym f) ∙ g))

  pub not-lacking : {member : Bool} → member ≡ has (side op a b) i → not member ≡ false → T (lacking ks a b op i) → ⊥
  not-lacking f g t = subst T (ap not (sym f) ∙ g) (and_r (present ks i) (not (has (side op a b) i)) t)

-- both sets have all
pub none-lacking : (ks : List ℕ) (a b : ℕ) → bit_and a b ≡ 255 → nowhere ≡ first_weak (lacking ks a b) (numbers_from 0 8)
none-lacking ks a b e =
    sym (weak-none (lacking ks a b) 0 8 (λ op j l u t. not-lacking ks a b op j refl (ap not (passed (has (side op a b) j) (both op j (omega arith)))) t))
  where
    has_both : (j : ℕ) → j < 8 → T (has a j && has b j)
    has_both j h = passes (sym (has-and a b j) ∙ ap (λ (s : ℕ). has s j) e ∙ full_byte j h)

    both : (op : Gate) (j : ℕ) → j < 8 → T (has (side op a b) j)
    both Max j h = and_l (has a j) (has b j) (has_both j h)
    both Min j h = and_r (has a j) (has b j) (has_both j h)

-- at a cell that does not count its lower grade, as the max join wants it, is 0 or above the least upper one
cell-counts : (g u : ℕ) → not (ltb 0 g && leb g u) ≡ eqb g 0 || ltb u g
cell-counts g u = go (eqb g 0) (ltb u g) refl refl
  where
    some : eqb g 0 ≡ false → ltb 0 g ≡ true
    some e = lt-ltb 0 g (omega (arith, eqb-false g 0 e))

    go : (a b : Bool) → eqb g 0 ≡ a → ltb u g ≡ b → not (ltb 0 g && leb g u) ≡ a || b
    go true b e f = let z = eqb-true g 0 e in ap (λ (x : Bool). not (x && leb g u)) (le-ltb 0 g (omega arith))
    go false true e f = ap₂ (λ (x y : Bool). not (x && y)) (some e) (lt-leb g u (ltb-true u g f))
    go false false e f = ap₂ (λ (x y : Bool). not (x && y)) (some e) (le-leb g u (ltb-false u g f))

-- the grades of a gate that the stage wants reached, and the one of them that asks nothing
module _ (ks : List ℕ) (m : ℕ) (l : Limits) where
  abbrev wanted : Gate → List ℕ
  wanted Max = l.lower
  wanted Min = l.upper

  free_grade : (op : Gate) → Good ks m l → (c : ℕ) → c < cells ks → eqb (at (exchange_for op ks m l).lower c) 0 ≡ eqb (at (wanted op) c) (side op 0 (m - 1))
  free_grade Max g c h = refl
  free_grade Min g c h = ap (λ (x : ℕ). eqb x 0) (complement-at ks m l.upper c h) ∙ go (eqb (at l.upper c) (m - 1)) refl
    where
      go : (b : Bool) → eqb (at l.upper c) (m - 1) ≡ b → eqb (m - 1 - at l.upper c) 0 ≡ b
      go true e = eq-eqb (m - 1 - at l.upper c) 0 (omega (arith, eqb-true (at l.upper c) (m - 1) e))
      go false e = ne_eqb (m - 1 - at l.upper c) 0 (λ z. eqb-false (at l.upper c) (m - 1) e (omega (arith, g.top c h)))

  -- a condition counts by a gate exactly where it is not in what the masks have in common
  counts-is : (op : Gate) (t : List ℕ) {s : ℕ} (i : ℕ) → Good ks m l → Masked op ks m l t → Common (cells ks) t (wanted op) (side op 0 (m - 1)) s → i < 8 → T (present ks i)
      → weak_counts op ks m i l ≡ not (has s i)
  unfolding above_least
  counts-is op t {s} i g b u h p =
      let x = exchange_for op ks m l in
      ap not
      (all_same (cells ks) _ _
      (λ c hc.
      cell-counts (at x.lower c) (at (least_over ks (singleton i) x.upper) c) ∙ ap₂ ◌||◌ (free_grade op g c hc) (sym (b.bit c i hc p)))
      ∙ sym (u.has-is i h))

-- what the search finds, from the masks of the stage at the front
module _ {m : ℕ} {ks w : List ℕ} {n : ℕ} (room : Room w ks n) (proper : Proper m (front_stage ks w)) (k : Known m ks w) (eight : length ks ≡ 8) where
  pub is_found : {a b : ℕ} → Common n (part w (2 * n) n) (part w 0 n) 0 a → Common n (part w (3 * n) n) (part w n n) (m - 1) b
      → first_weak (lacking ks a b) (numbers_from 0 8) ≡ weak_found m (front_stage ks w)
  is_found {a} {b} ca cb =
      ap₂ (λ (p : Gate → ℕ → Bool) (j : ℕ). first_weak p (numbers_from 0 j)) (fun_ext (λ op. fun_ext (λ i. same op i (present ks i) refl))) (sym eight)
    where
      l : Limits
      l = (front_stage ks w).limits

      common : (op : Gate) → Common (cells ks) (part w (mask_part op (cells ks)) (cells ks)) (wanted ks m l op) (side op 0 (m - 1)) (side op a b)
      common Max = subst (λ (c : ℕ). Common c (part w (2 * c) c) (part w 0 c) 0 a) room.own ca
      common Min = subst (λ (c : ℕ). Common c (part w (3 * c) c) (part w c c) (m - 1) b) room.own cb

      same : (op : Gate) (i : ℕ) (there : Bool) → present ks i ≡ there → (there && not (has (side op a b) i)) ≡ (there && weak_counts op ks m i l)
      same op i false e = refl
      same op i true e =
          let t = passes e in
          sym (counts-is ks m l op (part w (mask_part op (cells ks)) (cells ks)) i (proper_good proper) (k.masks op) (common op) (omega (arith, present_lt ks i t)) t)

-- none is tried where that may not be
pub tried_by : (m : ℕ) (may : Bool) (x : Stage) (b : Bool) → not may ≡ b → cond b nowhere (weak_found m x) ≡ cond may (weak_found m x) nowhere
tried_by m true x b e = ap (λ (q : Bool). cond q nowhere (weak_found m x)) (sym e)
tried_by m false x b e = ap (λ (q : Bool). cond q nowhere (weak_found m x)) (sym e)
