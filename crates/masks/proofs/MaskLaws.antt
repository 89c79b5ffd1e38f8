-- What masks say of drops and joins.
use Prim.Native.Nat.{ℕ, ◌-◌, ◌≤◌, max}
use mathlib.Core.Path.{◌≡◌, refl, sym, ◌∙◌, ap, ap₂}
use mathlib.Core.Bool.{Bool, true, false, not, ◌&&◌}
use mathlib.Core.List.{List}
use native.Mathlib.Nat.{le_trans, max-le, le-max_left, le-max_right}
use native.Mathlib.Omega.{arith}
use lib.Dec.{T, leb, ltb}
use borrow.Author.Tests.{ltb-true, ltb-false, le-leb, lt-leb}
use Rattle.rules.specs.Bytes.{at}
use Rattle.rules.specs.Cell.{cells, present, singleton, least_over}
use Rattle.rules.specs.Limits.{Limits}
use Rattle.rules.specs.Join.{exchange_for, join_exists}
use Rattle.rules.specs.Stage.{fits, merged}
use Rattle.rules.specs.declared.Gate.{Gate}
use Rattle.rules.specs.declared.Gate.TheVariants.{Max}
use Rattle.laws.proofs.TableLaws.{all_same}
use Rattle.laws.proofs.StageLaws.{drop-is}
use Rattle.masks.specs.Masks.{above_least, Masked, none_of, none_has, none_both}

-- a grade is not above another
not-above : (g x : ℕ) → leb g x ≡ not (ltb x g)
not-above g x = go (ltb x g) refl
  where
    go : (b : Bool) → ltb x g ≡ b → leb g x ≡ not b
    go true e = lt-leb g x (ltb-true x g e)
    go false e = le-leb g x (ltb-false x g e)

-- a grade is not above both of two
not-both : (g x y : ℕ) → leb g (max y x) ≡ not (ltb x g && ltb y g)
not-both g x y = go (ltb x g) (ltb y g) refl refl
  where
    go : (a b : Bool) → ltb x g ≡ a → ltb y g ≡ b → leb g (max y x) ≡ not (a && b)
    go true true e f =
        let p = ltb-true x g e in
        let q = ltb-true y g f in
        let most : max y x ≤ g - 1 = max-le (omega arith) (omega arith) in
        lt-leb g (max y x) (omega arith)
    go true false e f = le-leb g (max y x) (le_trans (ltb-false y g f) (le-max_left y x))
    go false b e f = le-leb g (max y x) (le_trans (ltb-false x g e) (le-max_right y x))

-- {i} and {j} join exactly where no mask has both
pub pair_joins : (op : Gate) (ks : List ℕ) (m : ℕ) (l : Limits) (t : List ℕ) (i j : ℕ)
    → Masked op ks m l t → T (present ks i) → T (present ks j)
    → join_exists op ks m (singleton i) (singleton j) l ≡ none_both (cells ks) t i j
unfolding above_least none_of
pair_joins op ks m l t i j b hi hj =
    let x = exchange_for op ks m l in
    all_same (cells ks) _ _
    (λ c h.
    not-both (at x.lower c) (at (least_over ks (singleton i) x.upper) c) (at (least_over ks (singleton j) x.upper) c)
    ∙ sym (ap₂ (λ (p q : Bool). not (p && q)) (b.bit c i h hi) (b.bit c j h hj)))

-- condition i can be dropped exactly where no mask for max has it
pub can_drop : (ks : List ℕ) (m : ℕ) (l : Limits) (t : List ℕ) (i : ℕ)
    → Masked Max ks m l t → T (present ks i) → fits ks (merged i (record { ks = ks; limits = l })) ≡ none_has (cells ks) t i
unfolding above_least none_of
can_drop ks m l t i b hi =
    sym (drop-is ks i l)
    ∙ all_same (cells ks) _ _
    (λ c h. not-above (at l.lower c) (at (least_over ks (singleton i) l.upper) c) ∙ sym (ap not (b.bit c i h hi)))
