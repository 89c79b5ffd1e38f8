-- 01, Stages, steps 3 and 4, in a stage's work buffer.
use Rattle.std.specs.Prelude.{ℕ, ◌+◌, ◌*◌, ◌≤◌, ◌<◌, ◌≡◌, List, Option, Some, None, length}
use Rattle.rules.specs.declared.Gate.{Gate}
use Rattle.rules.specs.declared.Gate.TheVariants.{Min, Max}
use Rattle.rules.specs.declared.Settings.{Settings}
use Rattle.rules.specs.Bytes.{at}
use Rattle.rules.specs.Cell.{cells}
use Rattle.rules.specs.Join.{exchange_for}
use Rattle.rules.specs.Stage as rules
use Rattle.rules.specs.Stage.{Stage, Grouping, none, split, joining, groups, chosen}
use Rattle.tables.specs.Part.{part}
use Rattle.join_tables.specs.Parts.{turned, Below}
use Rattle.grouping.specs.declared.Sets.{Sets}
use Rattle.grouping.specs.Growing.{Held, Kept, sets_of}
use Rattle.stage_choice.specs.declared.Choice.{Choice}
use Rattle.stage_choice.specs.declared.Choice.TheVariants.{Leaf, Split, Join}
use Rattle.stage_drops.specs.Working.{front_stage, ForBoth}

-- a choice of the code is one of the rules, which are asked only where two conditions are left
abbrev pub Does : Choice → rules.Choice → Type 0
Does Leaf q = ⊥
Does Split q = q ≡ split
Does (Join gate of) q = q ≡ joining gate of.s of.t

abbrev pub found_sets : Option Sets → Grouping
found_sets None = none
found_sets (Some p) = sets_of p

-- eight parts of n bytes
pub record Spaced (w : List ℕ) (n : ℕ) : Type 0 where
  pub room : 8 * n ≤ length w

-- limits below m grades in the first two
pub record Exchangeable (w : List ℕ) (m n : ℕ) : Type 0 where
  pub spaced : Spaced w n
  pub some : 1 ≤ m
  pub lows : Below w 0 n m
  pub highs : Below w n n m

-- the limits as a min join wants them, in parts 3 and 4
pub record Exchanged (m n : ℕ) (w w' : List ℕ) : Type 0 where
  pub lows : part w' (3 * n) n ≡ turned Min n m (part w n n)
  pub highs : part w' (4 * n) n ≡ turned Min n m (part w 0 n)
  pub kept : Kept w (3 * n) (4 * n) n w'

-- where the lower limits stand as the join of a gate wants them, the upper ones behind them
abbrev pub limits_at : Gate → ℕ → ℕ
limits_at Max n = 0
limits_at Min n = 3 * n

-- what a gate's grouping leaves as it was: for max all but parts 1 and 2, for min the first three
abbrev pub Stays : Gate → ℕ → ℕ → Type 0
Stays Max n j = 3 * n ≤ j
Stays Min n j = j < 3 * n

-- the limits of the stage at the front as the max join wants them, for a gate, stand at low
pub record Limited (gate : Gate) (m : ℕ) (x : Stage) (low : ℕ) (w : List ℕ) : Type 0 where
  pub lows : part w low (cells x.ks) ≡ (exchange_for gate x.ks m x.limits).lower
  pub highs : part w (low + cells x.ks) (cells x.ks) ≡ (exchange_for gate x.ks m x.limits).upper

-- and were laid there
pub record LimitsLaid (gate : Gate) (m : ℕ) (ks : List ℕ) (n : ℕ) (w : List ℕ) (r : ℕ) (w' : List ℕ) : Type 0 where
  pub place : r ≡ limits_at gate n
  pub limits : Limited gate m (front_stage ks w) r w'
  pub kept : (j : ℕ) → Stays gate n j → at w' j ≡ at w j
  pub len : length w' ≡ length w

-- a grouping with its tables: the lower limits at low, u_b behind them, and u_a behind that
pub record Tabled (gate : Gate) (m : ℕ) (x : Stage) (low : ℕ) (of : Sets) (w : List ℕ) : Type 0 where
  pub lows : part w low (cells x.ks) ≡ (exchange_for gate x.ks m x.limits).lower
  pub held : let n = cells x.ks in Held x.ks (exchange_for gate x.ks m x.limits).upper of.s of.t (low + n + n) (low + n) w

-- the grouping for a gate of the stage at the front; where there is none, nothing was written
pub record Sought (gate : Gate) (m : ℕ) (ks w : List ℕ) (r : Option Sets) (w' : List ℕ) : Type 0 where
  pub is : found_sets r ≡ groups m (front_stage ks w) gate
  pub tables : (of : Sets) → r ≡ Some of → Tabled gate m (front_stage ks w) (limits_at gate (cells ks)) of w'
  pub off : r ≡ None → w' ≡ w
  pub kept : (j : ℕ) → Stays gate (cells ks) j → at w' j ≡ at w j
  pub len : length w' ≡ length w

-- the grouping that a choice takes its sets from; a split takes none, so there is none
abbrev pub Taken : Option Sets → Option Sets → Choice → Type 0
Taken a b Leaf = ⊥
Taken a b Split = (a ≡ None) × (b ≡ None)
Taken a b (Join Max of) = a ≡ Some of
Taken a b (Join Min of) = b ≡ Some of

-- the choice between the grouping for max and the one for min, by the gate that wins ties
pub record Decided (tie : Gate) (a b : Option Sets) (r : Choice) : Type 0 where
  pub is : Does r (rules.choose tie (found_sets a) (found_sets b))
  pub taken : Taken a b r

-- the min join's tables in the places of the max join's
pub record MinSettled (n : ℕ) (w w' : List ℕ) : Type 0 where
  pub lows : part w' 0 n ≡ part w (3 * n) n
  pub firsts : part w' (2 * n) n ≡ part w (5 * n) n
  pub seconds : part w' n n ≡ part w (4 * n) n
  pub len : length w' ≡ length w

abbrev pub Settled : ℕ → List ℕ → Choice → List ℕ → Type 0
Settled n w Leaf w' = w' ≡ w
Settled n w Split w' = w' ≡ w
Settled n w (Join Max of) w' = w' ≡ w
Settled n w (Join Min of) w' = MinSettled n w w'

-- a split finds every byte as it was; a join finds what its blocks are made from
abbrev pub Prepared : ℕ → Stage → List ℕ → Choice → List ℕ → Type 0
Prepared m x w Leaf w' = ⊥
Prepared m x w Split w' = w' ≡ w
Prepared m x w (Join gate of) w' = ForBoth gate m x of.s of.t w'

-- the choice of the stage x
pub record Chosen (how : Settings) (m : ℕ) (x : Stage) (w : List ℕ) (r : Choice) (w' : List ℕ) : Type 0 where
  pub is : Does r (chosen how m x)
  pub tables : Prepared m x w r w'
  pub len : length w' ≡ length w
