-- What is claimed: of joins, demand 2; of sound networks, that ceilings bound grades; of a table and all its stages, demand 3.
use Rattle.std.specs.Prelude.{ℕ, ◌-◌, ◌*◌, ◌/◌, ◌≤◌, ◌<◌, ◌≡◌, Bool, true, false, List, ◌⊎◌, ◌↔◌, T, length}
use Rattle.rules.specs.declared.Gate.{Gate}
use Rattle.rules.specs.declared.Settings.{Settings}
use Rattle.rules.specs.Settings.{split_condition}
use Rattle.rules.specs.Bytes.{at, tabulate}
use Rattle.rules.specs.Cell.{Blind, Positive, cells, card, present, width, lowest, has, singleton}
use Rattle.rules.specs.Shape.{max_conditions, max_cardinality, max_grades, max_cells}
use Rattle.rules.specs.Limits.{Limits}
use Rattle.rules.specs.Join.{join_exists, first_limits, second_limits}
use Rattle.rules.specs.Network.{Record, combine, network_bytes, network_records, network_sound, ceiling_at, record_grade_at, evaluate}
use Rattle.rules.specs.Tree.{fixed, lookup, records}
use Rattle.rules.specs.Stage.{Stage, left, split, joining, chosen, weakly, tried, first_stage, second_stage, cofactor_stage, computed, choice_tree, may_left, tree_of, whole_table, compiled}

-- grade q is within the limits of cell c
abbrev pub Between : Limits → ℕ → ℕ → Type 0
Between l c q = (at l.lower c ≤ q) × (q ≤ at l.upper c)

-- a table that 01 accepts
pub record Table (ks : List ℕ) (m : ℕ) (l : Limits) : Type 0 where
  pub positive : Positive ks
  pub few-conditions : length ks ≤ max_conditions
  pub few-values : (i : ℕ) → card ks i ≤ max_cardinality
  pub few-cells : cells ks ≤ max_cells
  pub grades : 2 ≤ m
  pub few-grades : m ≤ max_grades
  pub ordered : (c : ℕ) → c < cells ks → at l.lower c ≤ at l.upper c
  pub top : (c : ℕ) → c < cells ks → at l.upper c ≤ m - 1

-- Demand 2, joins.

-- a function of the cells whose values are grades; one that lies within limits
abbrev pub Grades : List ℕ → ℕ → (ℕ → ℕ) → Type 0
Grades ks m f = (c : ℕ) → c < cells ks → f c ≤ m - 1

abbrev pub Inside : List ℕ → Limits → (ℕ → ℕ) → Type 0
Inside ks l f = (c : ℕ) → c < cells ks → Between l c (f c)

-- two functions, each blind to the other's own conditions, that the gate combines within the table
pub record Pair (op : Gate) (ks : List ℕ) (m s t : ℕ) (l : Limits) (g h : ℕ → ℕ) : Type 0 where
  pub first-grades : Grades ks m g
  pub second-grades : Grades ks m h
  pub first_blind : Blind ks t g
  pub second_blind : Blind ks s h
  pub inside : Inside ks l (λ c. combine op (g c) (h c))

pub record JoinExact (op : Gate) (ks : List ℕ) (m s t : ℕ) (l : Limits) : Type 0 where
  -- the join does not exist exactly when there are no two such functions
  pub refused : (join_exists op ks m s t l ≡ false) ↔ ((g h : ℕ → ℕ) → Pair op ks m s t l g h → ⊥)
  -- the first block's limits hold exactly the functions that can be the first of two
  pub first-exact : T (join_exists op ks m s t l) → (g : ℕ → ℕ) → Grades ks m g → Blind ks t g
      → Inside ks (first_limits op ks m s t l) g ↔ ((h : ℕ → ℕ) × Pair op ks m s t l g h)
  -- the second block's, exactly those that complete the first block given
  pub second-exact : T (join_exists op ks m s t l) → (g : List ℕ) → Grades ks m (at g) → Blind ks t (at g) → Inside ks (first_limits op ks m s t l) (at g)
      → (h : ℕ → ℕ) → Grades ks m h → Blind ks s h → Inside ks (second_limits op ks m s t l g) h ↔ Pair op ks m s t l (at g) h

-- Request 7, ceilings.

-- at every cell the grade of each record is at most its ceiling
abbrev pub Capped : List ℕ → List ℕ → Type 0
Capped ks net = (c k : ℕ) → k < length net / 16 → record_grade_at ks net c k ≤ ceiling_at net k

-- Demand 3, stages.

-- The stages of the table whose first stage is x₀, and whether each may take a weak join: that one, and every one that a stage among
-- them starts. Where no join exists a stage starts those of the split and those of the weak join that it tries; all of them count
-- here, also those whose records are then not in the network.
pub data StageOf (how : Settings) (m : ℕ) (x₀ : Stage) : Bool → Stage → Type 0 where
  itself : StageOf how m x₀ true x₀
  first_block : {may : Bool} {x : Stage} (op : Gate) (s t : ℕ) → StageOf how m x₀ may x → 2 ≤ width (left x).ks → chosen how m (left x) ≡ joining op s t
      → StageOf how m x₀ true (first_stage m op s t (left x))
  second_block : {may : Bool} {x : Stage} (op : Gate) (s t : ℕ) → StageOf how m x₀ may x → 2 ≤ width (left x).ks → chosen how m (left x) ≡ joining op s t
      → StageOf how m x₀ true (second_stage m op s t (left x) (computed (left x).ks (tree_of how m true (first_stage m op s t (left x)))))
  cofactor : {may : Bool} {x : Stage} (k : ℕ) → StageOf how m x₀ may x → 2 ≤ width (left x).ks → chosen how m (left x) ≡ split
      → k < card (left x).ks (split_condition how.splits (left x).ks)
      → StageOf how m x₀ true (cofactor_stage (split_condition how.splits (left x).ks) k (left x))
  weak-first : {may : Bool} {x : Stage} (op : Gate) (i : ℕ) → StageOf how m x₀ may x → 2 ≤ width (left x).ks
      → chosen how m (left x) ≡ split → tried how m (may_left may x) (left x) ≡ weakly op i
      → StageOf how m x₀ false (first_stage m op (singleton i) 0 (left x))
  weak-second : {may : Bool} {x : Stage} (op : Gate) (i : ℕ) → StageOf how m x₀ may x → 2 ≤ width (left x).ks
      → chosen how m (left x) ≡ split → tried how m (may_left may x) (left x) ≡ weakly op i
      → StageOf how m x₀ true (second_stage m op (singleton i) 0 (left x) (computed (left x).ks (tree_of how m false (first_stage m op (singleton i) 0 (left x)))))

-- every condition of s is in t
abbrev pub Subset : ℕ → ℕ → Type 0
Subset s t = (i : ℕ) → T (has s i) → T (has t i)

-- some condition of t is not in s
abbrev pub Larger : ℕ → ℕ → Type 0
Larger s t = (i : ℕ) × T (has t i) × (T (has s i) → ⊥)

-- 01, Joins: two sets of conditions that a join may be tried at
pub record Sets (ks : List ℕ) (s t : ℕ) : Type 0 where
  pub some_s : (i : ℕ) × T (has s i)
  pub some_t : (i : ℕ) × T (has t i)
  pub in_s : (i : ℕ) → T (has s i) → T (present ks i)
  pub in_t : (i : ℕ) → T (has t i) → T (present ks i)
  pub disjoint : (i : ℕ) → T (has s i) → T (has t i) → ⊥

-- 01, Stages: the sets s and t admit a join by a gate, y being the stage with its conditions left
pub record Admits (m : ℕ) (y : Stage) (op : Gate) (s t : ℕ) : Type 0 where
  pub sets : Sets y.ks s t
  pub joins : T (join_exists op y.ks m s t y.limits)

-- the choice of a stage
pub record Exact (how : Settings) (m : ℕ) (y : Stage) : Type 0 where
  -- a split, or a weak join in its place, exactly when no two sets admit a join by either gate
  pub splits : (chosen how m y ≡ split) ↔ ((op : Gate) (s t : ℕ) → Admits m y op s t → ⊥)
  -- the sets of a join admit it
  pub admitted : (op : Gate) (s t : ℕ) → chosen how m y ≡ joining op s t → Admits m y op s t
  -- and can't be extended
  pub largest : (op : Gate) (s t : ℕ) → chosen how m y ≡ joining op s t
      → (s' t' : ℕ) → Subset s s' → Subset t t' → Larger s s' ⊎ Larger t t' → Admits m y op s' t' → ⊥

-- what a stage gives, which may take a weak join or not: step 2's record where none or one condition is left, else what its choice starts,
-- and that choice is exact
pub record Built (how : Settings) (m : ℕ) (may : Bool) (x : Stage) : Type 0 where
  pub none_left : width (left x).ks ≡ 0 → tree_of how m may x ≡ fixed (at (left x).limits.lower 0)
  pub one_left : width (left x).ks ≡ 1
      → tree_of how m may x ≡ lookup (lowest (left x).ks) (tabulate (card (left x).ks (lowest (left x).ks)) (at (left x).limits.lower))
  pub more_left : 2 ≤ width (left x).ks
      → Exact how m (left x) × (tree_of how m may x ≡ choice_tree how m (tree_of how m) (may_left may x) (chosen how m (left x)) (left x))

-- so in every stage of the table
abbrev pub EveryStage : Settings → List ℕ → ℕ → Limits → Type 0
EveryStage how ks m l = (may : Bool) (x : Stage) → StageOf how m (whole_table ks l) may x → Built how m may x

-- the records of a table's network
abbrev pub compiled_records : Settings → List ℕ → ℕ → Limits → List Record
compiled_records how ks m l = records (compiled how ks m l) 0

-- demand 3 of a table and its network's bytes
pub record Compiled (how : Settings) (ks : List ℕ) (m : ℕ) (l : Limits) : Type 0 where
  pub within : Inside ks l (evaluate ks (network_bytes (compiled_records how ks m l)))
  pub sound : T (network_sound ks m (network_bytes (compiled_records how ks m l)))
  pub reads : network_records ks (network_bytes (compiled_records how ks m l)) ≡ compiled_records how ks m l
  pub capped : Capped ks (network_bytes (compiled_records how ks m l))
  pub one : cells ks ≡ 1 → length (compiled_records how ks m l) ≡ 1
  pub most : 2 ≤ cells ks → length (compiled_records how ks m l) ≤ 3 * cells ks - 5
  pub stages : EveryStage how ks m l
