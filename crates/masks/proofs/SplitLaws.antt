-- Masks that have every condition: the stage drops nothing, and splits where both gates have one.
use Prim.Native.Nat.{ℕ, ◌+◌, ◌-◌, ◌/◌, ◌^◌, ◌<◌}
use mathlib.Core.Path.{◌≡◌, sym, ◌∙◌, ap, ap₂, subst}
use mathlib.Core.Bool.{Bool, true, false, not, ◌&&◌}
use mathlib.Core.List.{List}
use native.Mathlib.Omega.{arith}
use borrow.Author.Tests.{not-true, not-false, eqb-true}
use lib.Dec.{T}
use lib.ListN.{length}
use Rattle.rules.specs.Bytes.{at, numbers_from}
use Rattle.rules.specs.Cell.{cells, present, lowest, has, singleton}
use Rattle.rules.specs.Limits.{Limits}
use Rattle.rules.specs.Join.{join_exists}
use Rattle.rules.specs.Stage.{Stage, none, left, groups, split, choose, chosen}
use Rattle.rules.specs.declared.Gate.{Gate}
use Rattle.rules.specs.declared.Settings.{Settings}
use Rattle.rules.specs.declared.Gate.TheVariants.{Min, Max}
use Rattle.laws.proofs.TestLaws.{passed, and_l, and_r}
use Rattle.laws.proofs.TableLaws.{all-at, all_false, all_fails}
use Rattle.laws.proofs.CellLaws.{present_lt}
use Rattle.laws.proofs.NumberLaws.{has_from}
use Rattle.laws.proofs.LowestLaws.{first-lowest}
use Rattle.laws.proofs.LoopLaws.{grouping-none}
use Rattle.laws.proofs.StageLaws.{drops-none}
use Rattle.masks.specs.Masks.{Masked, Union, none_of, none_has, none_both, is_full_from, some_full, every}
use Rattle.masks.proofs.MaskLaws.{pair_joins, can_drop}
use Rattle.masks.proofs.UnionLaws.{no_one_seen}

-- a mask that has every condition that is there
abbrev Full : List ℕ → ℕ → Type 0
Full ks s = (i : ℕ) → T (present ks i) → T (has s i)

-- where one of n masks is full, no condition drops and no two join
module _ (ks : List ℕ) (n c : ℕ) (t : List ℕ) (h : c < n) (f : Full ks (at t c)) where
  full_none : (i : ℕ) → T (present ks i) → none_has n t i ≡ false
  unfolding none_of
  full_none i p = all_false n _ c h (ap not (passed (has (at t c) i) (f i p)))

  full_both : (i j : ℕ) → T (present ks i) → T (present ks j) → none_both n t i j ≡ false
  unfolding none_of
  full_both i j p q =
      all_false n _ c h (ap₂ (λ (a b : Bool). not (a && b)) (passed (has (at t c) i) (f i p)) (passed (has (at t c) j) (f j q)))

-- what has every condition from the lowest on has all that are there
full_from : (ks : List ℕ) (s : ℕ) → length ks ≡ 8 → is_full_from (lowest ks) s ≡ true → Full ks s
full_from ks s few e i p =
    let k = lowest ks in
    let i-is : k + (i - k) ≡ i = omega (arith, first-lowest ks i p) in
    let same : s / 2 ^ k ≡ 255 / 2 ^ k = eqb-true _ _ e in
    let from : (x : ℕ) → has x i ≡ has (x / 2 ^ k) (i - k) = λ x. ap (has x) (sym i-is) ∙ has_from k (i - k) x in
    subst T (from 255 ∙ ap (λ (x : ℕ). has x (i - k)) (sym same) ∙ sym (from s))
    (all-at 8 (has 255) tt i (omega (arith, present_lt ks i p)))

-- the cell whose mask is full
some_full_lem : {P : Type 0} (ks : List ℕ) (n : ℕ) (t : List ℕ) → length ks ≡ 8 → some_full n t (lowest ks) ≡ true
    → ((c : ℕ) → c < n → Full ks (at t c) → P) → P
unfolding none_of
some_full_lem ks n t few e f =
    all_fails n (λ c. not (is_full_from (lowest ks) (at t c))) (not-true _ e) (λ c h q. f c h (full_from ks (at t c) few (not-false _ q)))

module _ (ks : List ℕ) (m : ℕ) (l : Limits) where
  abbrev x : Stage
  x = record { ks = ks; limits = l }

  module _ (t : List ℕ) where
    -- each condition that is there is in some mask for max: none drops
    pub refused-left : Masked Max ks m l t → ((i : ℕ) → T (present ks i) → none_has (cells ks) t i ≡ false) → left x ≡ x
    refused-left b h = drops-none x (λ i p f. subst T (can_drop ks m l t i b p ∙ h i p) f) (numbers_from 0 (length ks))

    -- the mask of cell c has all of them
    module _ (c : ℕ) (h : c < cells ks) (f : Full ks (at t c)) where
      full_left : Masked Max ks m l t → left x ≡ x
      full_left b = refused-left b (full_none ks (cells ks) c t h f)

      -- no two join
      full_groups : (op : Gate) → Masked op ks m l t → groups m x op ≡ none
      full_groups op b =
          grouping-none (present ks) joins 0 (length ks)
          (λ i j le lt below p.
          let pair = joins (singleton i) (singleton j) in
          let hi = and_l (present ks i) (present ks j && pair) p in
          let r = and_r (present ks i) (present ks j && pair) p in
          let hj = and_l (present ks j) pair r in
          subst T (pair_joins op ks m l t i j b hi hj ∙ full_both ks (cells ks) c t h f i j hi hj) (and_r (present ks j) pair r))
        where
          joins : ℕ → ℕ → Bool
          joins s t = join_exists op ks m s t l

  module _ (few : length ks ≡ 8) where
    -- the masks have all of them between them: none drops
    pub seen_left : (t : List ℕ) (s : ℕ) → Masked Max ks m l t → Union (cells ks) t every s → is_full_from (lowest ks) s ≡ true → left x ≡ x
    seen_left t s b u e = refused-left t b (λ i p. no_one_seen u i (full_from ks s few e i p))

    -- for each gate a mask has all of them: none drops, and the stage splits
    pub full_split : (how : Settings) (t t' : List ℕ) → Masked Max ks m l t → Masked Min ks m l t' → some_full (cells ks) t (lowest ks) ≡ true
        → some_full (cells ks) t' (lowest ks) ≡ true → (left x ≡ x) × (chosen how m x ≡ split)
    full_split how t t' b b' e e' =
        some_full_lem ks (cells ks) t few e
        (λ c h f.
        some_full_lem ks (cells ks) t' few e'
        (λ c' h' f'. (full_left t c h f b, ap₂ (choose how.tie) (full_groups t c h f Max b) (full_groups t' c' h' f' Min b'))))
