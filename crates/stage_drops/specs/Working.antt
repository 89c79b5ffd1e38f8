-- A stage in its work buffer: its limits are the parts at 0 and at c.
use Rattle.std.specs.Prelude.{ℕ, ◌-◌, ◌*◌, ◌≤◌, ◌<◌, ◌≡◌, List, length}
use Rattle.rules.specs.declared.Gate.{Gate}
use Rattle.rules.specs.Bytes.{at}
use Rattle.rules.specs.Cell.{cells}
use Rattle.rules.specs.Join.{u_a, u_b, exchange_for}
use Rattle.rules.specs.Limits.{Limits}
use Rattle.rules.specs.Stage.{Stage}
use Rattle.tables.specs.Part.{part, Shaped, stage_at}

-- a buffer for a stage over the places ks: eight parts of c bytes, a byte for each cell
pub record Room (w ks : List ℕ) (c : ℕ) : Type 0 where
  pub shaped : Shaped ks
  pub own : c ≡ cells ks
  pub room : 8 * c ≤ length w

-- the stage over the places ks whose limits are the front of the buffer
abbrev pub front_stage : List ℕ → List ℕ → Stage
front_stage ks w = stage_at ks w 0 (cells ks)

-- it became what f makes of it, over the places r
pub record Turned (f : Stage → Stage) (ks w r w' : List ℕ) : Type 0 where
  pub stage : front_stage r w' ≡ f (front_stage ks w)
  pub len : length w' ≡ length w

-- a stage with limits in order, below m grades
pub record Proper (m : ℕ) (x : Stage) : Type 0 where
  pub some : 1 ≤ m
  pub ordered : (c : ℕ) → c < cells x.ks → at x.limits.lower c ≤ at x.limits.upper c
  pub top : (c : ℕ) → c < cells x.ks → at x.limits.upper c ≤ m - 1

-- What the blocks of a join at s and t are made from, x being the stage with its conditions left: the lower limits as the max join
-- wants them in part 0, u_b in part 1 and, for the first block, u_a in part 2
module _ (gate : Gate) (m : ℕ) (x : Stage) (s t : ℕ) (w : List ℕ) where
  abbrev n : ℕ
  n = cells x.ks

  abbrev limits : Limits
  limits = exchange_for gate x.ks m x.limits

  pub record ForSecond : Type 0 where
    pub lows : part w 0 n ≡ limits.lower
    pub seconds : part w n n ≡ u_b x.ks s t limits.lower limits.upper

  pub record ForBoth : Type 0 where
    pub second : ForSecond
    pub firsts : part w (2 * n) n ≡ u_a x.ks s t limits.lower limits.upper
