-- A table of n cells needs at most 3 n - 5 records, or one.
use Prim.Native.Nat.{ℕ, zero, suc, ◌+◌, ◌-◌, ◌*◌, ◌≤◌, ◌<◌, max}
use mathlib.Core.Path.{◌≡◌, refl, ap}
use mathlib.Core.Bool.{Bool, true, false}
use mathlib.Core.List.{List}
use native.Mathlib.Nat.{le_refl, le_trans}
use native.Mathlib.Omega.{arith}
use lib.Dec.{T, ltb, ltb→lt}
use Rattle.rules.specs.declared.Gate.{Gate}
use Rattle.rules.specs.declared.Settings.{Settings}
use Rattle.rules.specs.Settings.{split_condition}
use Rattle.rules.specs.Cell.{Positive, cells, card, present, width, singleton, without}
use Rattle.rules.specs.Limits.{Limits}
use Rattle.rules.specs.Tree.{Tree, size}
use Rattle.rules.specs.Stage.{Stage, left, Choice, split, joining, chosen, Weak, nowhere, weakly, tried, first_stage, second_stage, cofactor_stage, computed, join_tree, split_part, split_to, split_tree, weak_tree, fewest, choice_tree, left_tree, may_left, rank, stage_tree, tree_of, whole_table, compiled}
use Rattle.rules.specs.Demands.{Admits}
use Rattle.laws.proofs.TestLaws.{cond_ok}
use Rattle.laws.proofs.WeakLaws.{rank_left, rank-fewer, one_fewer}
use Rattle.laws.proofs.CellLaws.{without_pos, without-cells, without_lt, without-half, twice}
use Rattle.laws.proofs.SplitLaws.{condition-cells, condition-rest, split-present}
use Rattle.laws.proofs.GroupLaws.{ChoiceOf, chosen_ok}
use Rattle.laws.proofs.StageLaws.{left_shrunk}

abbrev pub cap : ℕ → ℕ
cap n = max 1 (3 * n - 5)

abbrev SizeOk : (Bool → Stage → Tree) → ℕ → Type 0
SizeOk net f = (may : Bool) (x : Stage) → rank may x ≤ f → Positive x.ks → size (net may x) ≤ cap (cells x.ks)

two_sizes : (a b p q n : ℕ) → a ≤ cap p → b ≤ cap q → 2 * p ≤ n → 2 * q ≤ n → 4 ≤ n → a + b + 1 ≤ 3 * n - 5
two_sizes a b p q n ha hb hp hq hn = omega arith

module _ (m : ℕ) (net : Bool → Stage → Tree) (f : ℕ) (ok : SizeOk net f) where
  -- a stage with two conditions or more: condition i with k values, and p cells of the others
  module _ (may : Bool) (x : Stage) (hf : rank may x ≤ suc f) (pos : Positive x.ks) (hw : 2 ≤ width x.ks) (i : ℕ) (hi : T (present x.ks i)) where
    below-size : (z : Stage) → width z.ks < width x.ks → Positive z.ks → size (net true z) ≤ cap (cells z.ks)
    below-size z h p = ok true z (omega (arith, rank-fewer true may z x h)) p

    abbrev k : ℕ
    k = card x.ks i

    abbrev p : ℕ
    p = cells (without (singleton i) x.ks)

    rest-two : 2 ≤ p
    rest-two = condition-rest x.ks i pos hi hw

    part-size : (j : ℕ) → size (split_part m net i x j) + 1 ≤ 3 * p - 2
    part-size j = omega (arith, rest-two, below-size (cofactor_stage i j x) (one_fewer x.ks i hi) (without_pos (singleton i) x.ks pos))

    split-size : (j : ℕ) → size (split_to m net i x j) + 1 ≤ (j + 1) * (3 * p - 2)
    split-size zero = omega (arith, part-size 0)
    split-size (suc j) = sum (size (split_to m net i x j)) (size (split_part m net i x (suc j))) j (3 * p - 2) (split-size j) (part-size (suc j))
      where
        sum : (a b k q : ℕ) → a + 1 ≤ (k + 1) * q → b + 1 ≤ q → a + b + 1 + 1 ≤ (suc k + 1) * q
        sum a b k q h g = omega arith

    whole-size : size (split_tree m net i x) ≤ 3 * (k * p) - 5
    whole-size = last k p _ (ltb→lt 1 k hi) rest-two (split-size (k - 1))
      where
        product : (k p q x : ℕ) → 2 ≤ k → q + 2 ≡ 3 * p → x + 1 ≤ k * q → x ≤ 3 * (k * p) - 5
        product k p q x hk e h = omega (arith, ap (λ (y : ℕ). k * y) e)

        last : (k p x : ℕ) → 2 ≤ k → 2 ≤ p → x + 1 ≤ (k - 1 + 1) * (3 * p - 2) → x ≤ 3 * (k * p) - 5
        last k p x hk hp e =
            let back : k - 1 + 1 ≡ k = omega arith in
            product k p (3 * p - 2) x hk (omega arith) (rw back at e)

    -- a weak join that is kept has fewer records than the split
    fewest-size : (w : Weak) → size (fewest m net w i x) ≤ 3 * (k * p) - 5
    fewest-size nowhere = whole-size
    fewest-size (weakly op j) =
        cond_ok (λ (n : Tree). size n ≤ 3 * (k * p) - 5) (ltb (size (weak_tree m net op j x)) (size (split_tree m net i x))) (weak_tree m net op j x) (split_tree m net i x)
        (λ b. omega (arith, ltb→lt (size (weak_tree m net op j x)) (size (split_tree m net i x)) b, whole-size)) (λ n. whole-size)

    join_size : (op : Gate) (s t : ℕ) → Admits m x op s t → size (join_tree m net true op s t x) ≤ 3 * (k * p) - 5
    join_size op s t o =
        let a = o.sets.some_s in
        let b = o.sets.some_t in
        rw (condition-cells x.ks i)
        (two_sizes _ _ (cells (without t x.ks)) (cells (without s x.ks)) (cells x.ks)
        (below-size _ (without_lt t x.ks b.0 (o.sets.in_t b.0 b.1) b.1) (without_pos t x.ks pos))
        (below-size _ (without_lt s x.ks a.0 (o.sets.in_s a.0 a.1) a.1) (without_pos s x.ks pos))
        (without-half t x.ks b.0 pos (o.sets.in_t b.0 b.1) b.1)
        (without-half s x.ks a.0 pos (o.sets.in_s a.0 a.1) a.1)
        (rw (condition-cells x.ks i) at (twice k p 2 (ltb→lt 1 k hi) rest-two)))

  choice_size : (how : Settings) (may : Bool) (x : Stage) → rank may x ≤ suc f → Positive x.ks → 2 ≤ width x.ks → (ch : Choice) → ChoiceOf (Admits m x) ch
      → size (choice_tree how m net may ch x) ≤ 3 * cells x.ks - 5
  choice_size how may x hf pos hw ch o = rw (condition-cells x.ks i) at (go ch o)
    where
      i : ℕ
      i = split_condition how.splits x.ks

      hi : T (present x.ks i)
      hi = split-present how.splits x.ks (omega arith)

      go : (ch : Choice) → ChoiceOf (Admits m x) ch → size (choice_tree how m net may ch x) ≤ 3 * (card x.ks i * cells (without (singleton i) x.ks)) - 5
      go split o = fewest-size may x hf pos hw i hi (tried how m may x)
      go (joining op s t) o = join_size may x hf pos hw i hi op s t o

  left-size : (how : Settings) (may : Bool) (n : ℕ) (x : Stage) → width x.ks ≡ n → rank may x ≤ suc f → Positive x.ks → size (left_tree how m net may n x) ≤ cap (cells x.ks)
  left-size how may zero x e hf p = omega arith
  left-size how may (suc zero) x e hf p = omega arith
  left-size how may (suc (suc n)) x e hf p =
      omega (arith, choice_size how may x hf p (omega arith) (chosen how m x) (chosen_ok how m x))

cap_mono : (q a b : ℕ) → q ≤ cap a → a ≤ b → q ≤ cap b
cap_mono q a b g h = omega arith

stage-size : (how : Settings) (m f : ℕ) → SizeOk (stage_tree how m f) f
stage-size how m zero may x hf p = omega arith
stage-size how m (suc f) may x hf p =
    let d = left_shrunk x p in
    let r = left-size m (stage_tree how m f) f (stage-size how m f) how (may_left may x) (width (left x).ks) (left x) refl (le_trans (rank_left may x d.fewer) hf) d.pos in
    cap_mono _ _ _ r d.less

-- so for every stage
pub network-size : (how : Settings) (m : ℕ) (may : Bool) (x : Stage) → Positive x.ks → size (tree_of how m may x) ≤ cap (cells x.ks)
network-size how m may x p = stage-size how m (rank may x) may x (le_refl _) p

-- a split that is tried beside a weak join
pub split-size-most : (how : Settings) (m i : ℕ) (x : Stage) → Positive x.ks → 2 ≤ width x.ks → T (present x.ks i)
    → size (split_tree m (tree_of how m) i x) ≤ cap (cells x.ks)
split-size-most how m i x p h hi =
    omega (arith, rw (condition-cells x.ks i) at (whole-size m (tree_of how m) (rank true x) (λ q z l o. network-size how m q z o) true x (omega arith) p h i hi))

-- a weak join that is tried: its first block has as many cells as the stage, its second fewer
pub weak-size : (how : Settings) (m : ℕ) (op : Gate) (i : ℕ) (x : Stage) → Positive x.ks → size (weak_tree m (tree_of how m) op i x) ≤ 2 * cap (cells x.ks) + 1
weak-size how m op i x p =
    both _ _ _
    (cap_mono _ _ _ (network-size how m false (first_stage m op (singleton i) 0 x) (without_pos 0 x.ks p)) (without-cells 0 x.ks p))
    (cap_mono _ _ _ (network-size how m true (second_stage m op (singleton i) 0 x (computed x.ks (tree_of how m false (first_stage m op (singleton i) 0 x)))) (without_pos (singleton i) x.ks p)) (without-cells (singleton i) x.ks p))
  where
    both : (a b c : ℕ) → a ≤ c → b ≤ c → a + b + 1 ≤ 2 * c + 1
    both a b c h g = omega arith

pub compiled-size : (how : Settings) (ks : List ℕ) (m : ℕ) (l : Limits) → Positive ks → size (compiled how ks m l) ≤ cap (cells ks)
compiled-size how ks m l p = network-size how m true (whole_table ks l) p
