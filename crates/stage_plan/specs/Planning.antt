-- 01, Stages, steps 1 to 4, in a stage's work buffer.
use Rattle.std.specs.Prelude.{ℕ, ◌+◌, ◌*◌, ◌≤◌, ◌<◌, ◌≡◌, Bool, true, not, ◌&&◌, List, ltb, length}
use Rattle.rules.specs.declared.Gate.{Gate}
use Rattle.rules.specs.declared.Settings.{Settings}
use Rattle.rules.specs.Bytes.{at}
use Rattle.rules.specs.Cell.{cells, width}
use Rattle.rules.specs.Stage.{Stage, left, split, joining, chosen}
use Rattle.places.specs.Conditions.{IsLowest}
use Rattle.tables.specs.Part.{part}
use Rattle.masks.specs.Masks.{Known, none_has, some_full}
use Rattle.stage_drops.specs.Working.{front_stage, Proper, ForBoth}
use Rattle.stage_choice.specs.declared.Choice.{Choice}
use Rattle.stage_choice.specs.declared.Choice.TheVariants.{Leaf, Split, Join}
use Rattle.stage_plan.specs.declared.Plan.{Plan}

-- the n lower limits at the front are not above the upper ones behind them
pub record Ordered (w : List ℕ) (n : ℕ) : Type 0 where
  pub under : (c : ℕ) → c < n → at w c ≤ at w (n + c)

-- the masks of the stage at the front are known, and the stage is as it was
pub record Learnt (ks : List ℕ) (known : Bool) (w w' : List ℕ) : Type 0 where
  pub masks : (m : ℕ) → Proper m (front_stage ks w) → (known ≡ true → Known m ks w) → Known m ks w'
  pub stage : front_stage ks w' ≡ front_stage ks w
  pub len : length w' ≡ length w

-- some mask for max and some for min have every condition from k on
abbrev pub both_full : List ℕ → ℕ → ℕ → Bool
both_full w n k = some_full n (part w (2 * n) n) k && some_full n (part w (3 * n) n) k

-- the masks are known, and one for max has the condition of that number
abbrev pub keeps_last : List ℕ → ℕ → ℕ → Bool → Bool
keeps_last w n i known = known && (ltb i 8 && not (none_has n (part w (2 * n) n) i))

-- what a stage y with its conditions left finds in its buffer. With none left or one: its limits at the front
pub record Leaves (y : Stage) (w : List ℕ) : Type 0 where
  pub narrow : width y.ks < 2
  pub stage : front_stage y.ks w ≡ y

-- one that splits: its limits and its masks
pub record Splitting (how : Settings) (m : ℕ) (y : Stage) (w : List ℕ) : Type 0 where
  pub wide : 2 ≤ width y.ks
  pub is : chosen how m y ≡ split
  pub stage : front_stage y.ks w ≡ y
  pub masks : Known m y.ks w

-- one that joins: what its blocks are made from
pub record Joining (how : Settings) (gate : Gate) (m : ℕ) (y : Stage) (s t : ℕ) (w : List ℕ) : Type 0 where
  pub wide : 2 ≤ width y.ks
  pub is : chosen how m y ≡ joining gate s t
  pub tables : ForBoth gate m y s t w

abbrev pub Finds : Settings → ℕ → Stage → Choice → List ℕ → Type 0
Finds how m y Leaf w = Leaves y w
Finds how m y Split w = Splitting how m y w
Finds how m y (Join gate of) w = Joining how gate m y of.s of.t w

pub record Doing (how : Settings) (m : ℕ) (y : Stage) (w : List ℕ) (r : Choice) (w' : List ℕ) : Type 0 where
  pub finds : Finds how m y r w'
  pub len : length w' ≡ length w

-- what the stage at the front of w does, with what is left of it
pub record Planned (how : Settings) (m : ℕ) (ks w : List ℕ) (r : Plan) (w' : List ℕ) : Type 0 where
  pub places : r.places ≡ (left (front_stage ks w)).ks
  pub own : r.cells ≡ cells r.places
  pub lowest : IsLowest r.places r.low
  pub does : Doing how m (left (front_stage ks w)) w r.choice w'

-- the same whatever the settings and the number of grades
pub record Ends (ks w : List ℕ) (r : Plan) (w' : List ℕ) : Type 0 where
  pub planned : (how : Settings) (m : ℕ) → Planned how m ks w r w'
