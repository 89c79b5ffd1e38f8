-- A stage's network in terms of the networks of the stages that it starts.
use Prim.Native.Nat.{ℕ, zero, suc, ◌-◌, ◌≤◌, ◌<◌}
use mathlib.Core.Path.{◌≡◌, refl, sym, ◌∙◌, ap, ap₂}
use mathlib.Core.Bool.{Bool, true, false, cond}
use mathlib.Core.List.{List}
use native.Mathlib.Nat.{le_refl}
use native.Mathlib.Omega.{arith}
use lib.Dec.{T, ltb}
use lib.ListN.{length}
use Rattle.rules.specs.Bytes.{at, numbers_from}
use Rattle.rules.specs.Cell.{Positive, card, present, width, singleton, without}
use Rattle.rules.specs.Limits.{Limits}
use Rattle.rules.specs.Tree.{Tree, fixed, gated, size}
use Rattle.rules.specs.Stage.{Stage, left, Choice, split, joining, chosen, Weak, nowhere, weakly, tried, first_stage, second_stage, cofactor_stage, computed, selector, join_tree, split_part, split_to, split_tree, fewest, choice_tree, left_tree, may_left, rank, stage_tree, tree_of}
use Rattle.rules.specs.Demands.{Admits, Table, Built, EveryStage}
use Rattle.rules.specs.declared.Settings.{Settings}
use Rattle.rules.specs.Settings.{split_condition}
use Rattle.rules.specs.declared.Gate.{Gate}
use Rattle.rules.specs.declared.Gate.TheVariants.{Min, Max}
use Rattle.laws.proofs.CellLaws.{without_pos, without_lt}
use Rattle.laws.proofs.LowestLaws.{present-width}
use Rattle.laws.proofs.SplitLaws.{split-present}
use Rattle.laws.proofs.WeakLaws.{WeakOf, tried_may, rank_left, rank-fewer, weak-first-rank, one_fewer}
use Rattle.laws.proofs.GroupLaws.{ChoiceOf, chosen_ok, exact}
use Rattle.laws.proofs.StageLaws.{drops-none, left_shrunk, stages-ready}

-- networks that are the same for every stage of a lower rank
module _ (how : Settings) (m : ℕ) (net net' : Bool → Stage → Tree) (may : Bool) (y : Stage) (p : Positive y.ks)
    (same : (q : Bool) (z : Stage) → rank q z < rank may y → Positive z.ks → net q z ≡ net' q z) where
  fewer-same : (z : Stage) → width z.ks < width y.ks → Positive z.ks → net true z ≡ net' true z
  fewer-same z h = same true z (rank-fewer true may z y h)

  join_same : (q : Bool) (op : Gate) (s t : ℕ) → rank q (first_stage m op s t y) < rank may y → width (without s y.ks) < width y.ks
      → join_tree m net q op s t y ≡ join_tree m net' q op s t y
  join_same q op s t h g =
      ap (λ (a : Tree). gated op a (net true (second_stage m op s t y (computed y.ks a)))) (same q (first_stage m op s t y) h (without_pos t y.ks p))
      ∙ ap (gated op a) (fewer-same (second_stage m op s t y (computed y.ks a)) g (without_pos s y.ks p))
    where
      a : Tree
      a = net' q (first_stage m op s t y)

  split-same : (i : ℕ) → T (present y.ks i) → split_tree m net i y ≡ split_tree m net' i y
  split-same i h = go (card y.ks i - 1)
    where
      one : (j : ℕ) → split_part m net i y j ≡ split_part m net' i y j
      one j = ap (gated Min (selector m y.ks i j)) (fewer-same (cofactor_stage i j y) (one_fewer y.ks i h) (without_pos (singleton i) y.ks p))

      go : (j : ℕ) → split_to m net i y j ≡ split_to m net' i y j
      go zero = one 0
      go (suc j) = ap₂ (gated Max) (go j) (one (suc j))

  fewest-same : (w : Weak) (i : ℕ) → T (present y.ks i) → WeakOf (λ op j. T may × T (present y.ks j)) w → fewest m net w i y ≡ fewest m net' w i y
  fewest-same nowhere i h o = split-same i h
  fewest-same (weakly op j) i h o =
      ap₂ (λ (a b : Tree). cond (ltb (size a) (size b)) a b)
      (join_same false op (singleton j) 0 (weak-first-rank may m op (singleton j) y o.0) (one_fewer y.ks j o.1))
      (split-same i h)

  choice_same : (ch : Choice) → 1 ≤ width y.ks → ChoiceOf (Admits m y) ch → choice_tree how m net may ch y ≡ choice_tree how m net' may ch y
  choice_same split w o =
      fewest-same (tried how m may y) (split_condition how.splits y.ks) (split-present how.splits y.ks w) (tried_may how m may y)
  choice_same (joining op s t) w o =
      join_same true op s t
      (rank-fewer true may (first_stage m op s t y) y (without_lt t y.ks o.sets.some_t.0 (o.sets.in_t _ o.sets.some_t.1) o.sets.some_t.1))
      (without_lt s y.ks o.sets.some_s.0 (o.sets.in_s _ o.sets.some_s.1) o.sets.some_s.1)

  left-same : (n : ℕ) → width y.ks ≡ n → left_tree how m net may n y ≡ left_tree how m net' may n y
  left-same zero e = refl
  left-same (suc zero) e = refl
  left-same (suc (suc n)) e = choice_same (chosen how m y) (omega arith) (chosen_ok how m y)

-- without conditions there is nothing to drop
none-same : (how : Settings) (m f : ℕ) (may : Bool) (x : Stage) → width x.ks ≡ 0 → stage_tree how m (suc f) may x ≡ fixed (at x.limits.lower 0)
none-same how m f may x e =
    ap (λ (y : Stage). left_tree how m (stage_tree how m f) (may_left may x) (width y.ks) y)
    (drops-none x (λ i h t. absurd (omega (arith, present-width x.ks i h))) (numbers_from 0 (length x.ks)))
    ∙ ap (λ (n : ℕ). left_tree how m (stage_tree how m f) (may_left may x) n x) e

-- more fuel than its rank changes nothing
fuel_same : (how : Settings) (m f f' : ℕ) (may : Bool) (x : Stage) → rank may x ≤ f → rank may x ≤ f' → Positive x.ks → stage_tree how m f may x ≡ stage_tree how m f' may x
fuel_same how m zero zero may x h h' p = refl
fuel_same how m zero (suc f') may x h h' p = sym (none-same how m f' may x (omega arith))
fuel_same how m (suc f) zero may x h h' p = none-same how m f may x (omega arith)
fuel_same how m (suc f) (suc f') may x h h' p =
    let d = left_shrunk x p in
    let r = rank_left may x d.fewer in
    left-same how m (stage_tree how m f) (stage_tree how m f') (may_left may x) (left x) d.pos (λ q z lt o. fuel_same how m f f' q z (omega arith) (omega arith) o) (width (left x).ks) refl

pub network-left : (how : Settings) (m : ℕ) (may : Bool) (x : Stage) → Positive x.ks → tree_of how m may x ≡ left_tree how m (tree_of how m) (may_left may x) (width (left x).ks) (left x)
network-left how m may x p =
    let d = left_shrunk x p in
    let r = rank_left may x d.fewer in
    fuel_same how m (rank may x) (suc (rank may x)) may x (le_refl _) (omega arith) p
    ∙ left-same how m (stage_tree how m (rank may x)) (tree_of how m) (may_left may x) (left x) d.pos
    (λ q z lt o. fuel_same how m (rank may x) (rank q z) q z (omega arith) (le_refl _) o) (width (left x).ks) refl

-- with two conditions left or more, the tree of its choice
pub chosen-tree : (how : Settings) (m : ℕ) (may : Bool) (x : Stage) → Positive x.ks → 2 ≤ width (left x).ks
    → tree_of how m may x ≡ choice_tree how m (tree_of how m) (may_left may x) (chosen how m (left x)) (left x)
chosen-tree how m may x p h = network-left how m may x p ∙ go (width (left x).ks) h
  where
    go : (n : ℕ) → 2 ≤ n → left_tree how m (tree_of how m) (may_left may x) n (left x) ≡ choice_tree how m (tree_of how m) (may_left may x) (chosen how m (left x)) (left x)
    go zero h = absurd (omega arith)
    go (suc zero) h = absurd (omega arith)
    go (suc (suc n)) h = refl

-- so by how many conditions are left
pub built : (how : Settings) (m : ℕ) (may : Bool) (x : Stage) → Positive x.ks → Built how m may x
built how m may x p =
    record {
      none_left = λ e. network-left how m may x p ∙ ap (λ (n : ℕ). left_tree how m (tree_of how m) (may_left may x) n (left x)) e;
      one_left = λ e. network-left how m may x p ∙ ap (λ (n : ℕ). left_tree how m (tree_of how m) (may_left may x) n (left x)) e;
      more_left = λ h. (exact how m (left x), chosen-tree how m may x p h);
    }

pub every-stage : (how : Settings) (ks : List ℕ) (m : ℕ) (l : Limits) → Table ks m l → EveryStage how ks m l
every-stage how ks m l t may x s = built how m may x (stages-ready how ks m l t s).pos
