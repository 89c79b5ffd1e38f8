-- 01, Stages, and requests 5 and 8: from a table to its network.
use Rattle.std.specs.Prelude.{ℕ, zero, suc, ◌+◌, ◌-◌, ◌*◌, ◌/◌, ◌%◌, Bool, true, false, cond, not, ◌&&◌, ◌||◌, List, [], ◌∷◌, leb, ltb, eqb, length}
use Rattle.rules.specs.declared.Gate.{Gate}
use Rattle.rules.specs.declared.Gate.TheVariants.{Min, Max}
use Rattle.rules.specs.declared.Settings.{Settings}
use Rattle.rules.specs.Settings.{less_or_tie, split_condition}
use Rattle.rules.specs.Bytes.{pick, at, tabulate, all, numbers_from}
use Rattle.rules.specs.Cell.{cells, card, present, width, lowest, value, remap, put, has, insert, singleton, without, moved, greatest_over, least_over}
use Rattle.rules.specs.Limits.{Limits, each}
use Rattle.rules.specs.Join.{join_exists, first_limits, second_limits, weak_counts}
use Rattle.rules.specs.Tree.{Tree, fixed, lookup, gated, tree_grade, size}

-- a stage: its places, with cardinality 1 for each condition that it does not have, and the limits of its own cells
pub record Stage : Type 0 where
  pub ks : List ℕ
  pub limits : Limits

-- the stage over the conditions outside t, under limits l that are for the cells of x
abbrev pub outside : ℕ → Stage → Limits → Stage
outside t x l = let b = without t x.ks in record { ks = b; limits = each (moved x.ks b) l }

-- the function that a tree computes, as a table over the cells of a shape
abbrev pub computed : List ℕ → Tree → List ℕ
computed ks n = tabulate (cells ks) (λ c. tree_grade n (value ks c))

-- Step 1. The limits that dropping condition i would leave
abbrev pub merged : ℕ → Stage → Limits
merged i x =
    record { lower = greatest_over x.ks (singleton i) x.limits.lower; upper = least_over x.ks (singleton i) x.limits.upper }

-- every cell has a grade within them
abbrev pub fits : List ℕ → Limits → Bool
fits ks l = all (cells ks) (λ c. leb (at l.lower c) (at l.upper c))

-- condition i dropped, if it is there and can be. In the field: removal of an inessential variable
abbrev pub drop_one : ℕ → Stage → Stage
drop_one i x =
    let dropped = outside (singleton i) x (merged i x) in
    cond (present x.ks i && fits x.ks (merged i x)) dropped x

abbrev pub drops : List ℕ → Stage → Stage
drops [] x = x
drops (i ∷ is) x = drops is (drop_one i x)

-- the stage with its conditions left, under its limits from then on
abbrev pub left : Stage → Stage
left x = drops (numbers_from 0 (length x.ks)) x

-- Step 3. Two sets, if a pair is found
pub data Grouping : Type 0 where
  none : Grouping
  sets : ℕ → ℕ → Grouping

abbrev pub members : ℕ → ℕ → ℕ
members zero s = 0
members (suc f) s = s % 2 + members f (s / 2)

-- how many conditions a set has
abbrev pub count : ℕ → ℕ
count = members 8

-- is i : condition i is left; joins s t : the join at the sets s and t exists
module _ (is : ℕ → Bool) (joins : ℕ → ℕ → Bool) where
  -- the first pair of i and one of the numbers given that joins, or else the other grouping
  abbrev pub pair_with : ℕ → List ℕ → Grouping → Grouping
  pair_with i [] other = other
  pair_with i (j ∷ js) other =
      let later = pair_with i js other in
      cond (is i && (is j && joins (singleton i) (singleton j))) (sets (singleton i) (singleton j)) later

  -- the first pair i < j that joins, i rising, then j
  abbrev pub first_pair : List ℕ → Grouping
  first_pair [] = none
  first_pair (i ∷ js) = let later = first_pair js in pair_with i js later

  abbrev pub try_join : ℕ → ℕ → Grouping → Grouping
  try_join s t other = cond (joins s t) (sets s t) other

  -- one condition added: first to the set with fewer members, s when equal, then to the other, else to neither
  abbrev pub add_condition : ℕ → Grouping → Grouping
  add_condition i none = none
  add_condition i (sets s t) =
      let to_s = try_join (insert s i) t (try_join s (insert t i) (sets s t)) in
      let to_t = try_join s (insert t i) (try_join (insert s i) t (sets s t)) in
      let tried = cond (leb (count s) (count t)) to_s to_t in
      cond (is i && (not (has s i) && not (has t i))) tried (sets s t)

  abbrev pub grow : List ℕ → Grouping → Grouping
  grow [] g = g
  grow (i ∷ js) g = grow js (add_condition i g)

  -- the first pair, with every other condition that can be added. In the field: variable grouping
  abbrev pub grouping : List ℕ → Grouping
  grouping js = grow js (first_pair js)

-- the grouping that a stage finds for a gate
abbrev pub groups : ℕ → Stage → Gate → Grouping
groups m x op =
    grouping (present x.ks) (λ s t. join_exists op x.ks m s t x.limits) (numbers_from 0 (length x.ks))

-- Step 4. A join by a gate at two sets, or a split; a weak join can take the place of a split
pub data Choice : Type 0 where
  split : Choice
  joining : Gate → ℕ → ℕ → Choice

abbrev pub difference : ℕ → ℕ → ℕ
difference a b = (a - b) + (b - a)

-- whether the max grouping s, t is taken before the min grouping s', t': more conditions, then the smaller difference, then the gate that
-- wins a full tie
abbrev pub keeps_max : Gate → ℕ → ℕ → ℕ → ℕ → Bool
keeps_max tie s t s' t' =
    ltb (count s' + count t') (count s + count t)
    || (eqb (count s' + count t') (count s + count t) && less_or_tie tie (difference (count s) (count t)) (difference (count s') (count t')))

abbrev pub choose : Gate → Grouping → Grouping → Choice
choose tie none none = split
choose tie none (sets s t) = joining Min s t
choose tie (sets s t) none = joining Max s t
choose tie (sets s t) (sets s' t') = cond (keeps_max tie s t s' t') (joining Max s t) (joining Min s' t')

abbrev pub chosen : Settings → ℕ → Stage → Choice
chosen how m x = choose how.tie (groups m x Max) (groups m x Min)

-- Step 5. The stages that a join starts
abbrev pub first_stage : ℕ → Gate → ℕ → ℕ → Stage → Stage
first_stage m op s t x = outside t x (first_limits op x.ks m s t x.limits)

-- g is the function that the first network computes
abbrev pub second_stage : ℕ → Gate → ℕ → ℕ → Stage → List ℕ → Stage
second_stage m op s t x g = outside s x (second_limits op x.ks m s t x.limits g)

-- Step 6. The cell that has value k of condition i, and of the others the values of cell c of the shape without it
abbrev pub cofactor_cell : List ℕ → ℕ → ℕ → ℕ → ℕ
cofactor_cell ks i k c = put ks (remap (without (singleton i) ks) ks c) i k

-- the stage that a split on condition i starts for value k. In the field: the cofactor at value k; a split is an expansion by cofactors
abbrev pub cofactor_stage : ℕ → ℕ → Stage → Stage
cofactor_stage i k x =
    let b = without (singleton i) x.ks in
    record { ks = b; limits = each (λ f. tabulate (cells b) (λ c. at f (cofactor_cell x.ks i k c))) x.limits }

-- the literal that selects value k of condition i
abbrev pub selector : ℕ → List ℕ → ℕ → ℕ → Tree
selector m ks i k = lookup i (tabulate (card ks i) (λ v. pick (eqb v k) (m - 1) 0))

-- Request 5. A weak join by a gate at condition i, or none
pub data Weak : Type 0 where
  nowhere : Weak
  weakly : Gate → ℕ → Weak

-- the first that counts: conditions in the order given, max and then min
abbrev pub first_weak : (Gate → ℕ → Bool) → List ℕ → Weak
first_weak counts [] = nowhere
first_weak counts (i ∷ is) =
    let later = first_weak counts is in
    cond (counts Max i) (weakly Max i) (cond (counts Min i) (weakly Min i) later)

abbrev pub weak_found : ℕ → Stage → Weak
weak_found m x = first_weak (λ op i. present x.ks i && weak_counts op x.ks m i x.limits) (numbers_from 0 (length x.ks))

-- the one that is built, if weak joins are tried and the stage may take one
abbrev pub tried : Settings → ℕ → Bool → Stage → Weak
tried how m may x = cond (how.weak && may) (weak_found m x) nowhere

-- the trees of joins and splits, where `net` gives those of the stages that they start; `may`: whether a stage may take a weak join
module _ (m : ℕ) (net : Bool → Stage → Tree) where
  -- step 5; `may` is for the first block
  abbrev pub join_tree : Bool → Gate → ℕ → ℕ → Stage → Tree
  join_tree may op s t x =
      let a : Tree = net may (first_stage m op s t x) in
      gated op a (net true (second_stage m op s t x (computed x.ks a)))

  -- step 6, on condition i: one value
  abbrev pub split_part : ℕ → Stage → ℕ → Tree
  split_part i x k = gated Min (selector m x.ks i k) (net true (cofactor_stage i k x))

  -- the values 0 to k
  abbrev pub split_to : ℕ → Stage → ℕ → Tree
  split_to i x zero = split_part i x 0
  split_to i x (suc k) = gated Max (split_to i x k) (split_part i x (suc k))

  abbrev pub split_tree : ℕ → Stage → Tree
  split_tree i x = split_to i x (card x.ks i - 1)

  -- request 5, with S = {j} and T empty: the first block keeps all conditions, and may take no weak join
  abbrev pub weak_tree : Gate → ℕ → Stage → Tree
  weak_tree op j x = join_tree false op (singleton j) 0 x

  -- a weak join is kept if it has fewer records than the split on condition i
  abbrev pub fewest : Weak → ℕ → Stage → Tree
  fewest nowhere i x = split_tree i x
  fewest (weakly op j) i x =
      let a : Tree = weak_tree op j x in
      let b : Tree = split_tree i x in
      cond (ltb (size a) (size b)) a b

-- the tree of a stage
module _ (how : Settings) (m : ℕ) (net : Bool → Stage → Tree) where
  abbrev pub choice_tree : Bool → Choice → Stage → Tree
  choice_tree may split x = fewest m net (tried how m may x) (split_condition how.splits x.ks) x
  choice_tree may (joining op s t) x = join_tree m net true op s t x

  -- step 2, with no condition or one left; steps 3 to 6 with more
  abbrev pub left_tree : Bool → ℕ → Stage → Tree
  left_tree may zero x = fixed (at x.limits.lower 0)
  left_tree may (suc zero) x = lookup (lowest x.ks) (tabulate (card x.ks (lowest x.ks)) (at x.limits.lower))
  left_tree may (suc (suc n)) x = choice_tree may (chosen how m x) x

-- a stage that has lost a condition may take a weak join again
abbrev pub may_left : Bool → Stage → Bool
may_left may x = may || ltb (width (left x).ks) (width x.ks)

-- a stage starts stages of a lower rank only: they have fewer conditions, or as many and may take no weak join
abbrev pub rank : Bool → Stage → ℕ
rank may x = 2 * width x.ks + pick may 1 0

-- the tree of a stage of rank f at most
abbrev pub stage_tree : Settings → ℕ → ℕ → Bool → Stage → Tree
stage_tree how m zero may x = fixed (at x.limits.lower 0)
stage_tree how m (suc f) may x = let y = left x in left_tree how m (stage_tree how m f) (may_left may x) (width y.ks) y

abbrev pub tree_of : Settings → ℕ → Bool → Stage → Tree
tree_of how m may x = stage_tree how m (rank may x) may x

-- the first stage of a table
abbrev pub whole_table : List ℕ → Limits → Stage
whole_table ks l = record { ks = ks; limits = l }

-- the network of a table
abbrev pub compiled : Settings → List ℕ → ℕ → Limits → Tree
compiled how ks m l = tree_of how m true (whole_table ks l)
