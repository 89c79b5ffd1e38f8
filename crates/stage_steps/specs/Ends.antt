-- How a stage ends.
use Rattle.std.specs.Prelude.{ℕ, ◌*◌, ◌≤◌, ◌<◌, ◌≡◌, Bool, List, length}
use Rattle.rules.specs.declared.Gate.{Gate}
use Rattle.rules.specs.Bytes.{at, tabulate}
use Rattle.rules.specs.Cell.{cells, moved}
use Rattle.rules.specs.Tree.{fixed, lookup}
use Rattle.places.specs.declared.sets.Condition.{Condition}
use Rattle.tables.specs.Part.{part, Shaped}
use Rattle.stage_blocks.specs.Blocks.{JoinedLaid}
use Rattle.stage_steps.specs.declared.gates.Extent.{Extent}
use Rattle.stage_steps.specs.Extents.{TreePut, GatePut}
use Rattle.stage_steps.specs.Wanting.{Wanted}

-- none left, or the condition `low`: a lower grade for each of its values is at the front of the work buffer
pub record LeafRoom (w : List ℕ) (low : Condition) (r : ℕ) : Type 0 where
  pub some : 1 ≤ low.values
  pub few : low.values ≤ 8
  pub work : low.values ≤ length w
  pub number : r < 65536

-- the one record of step 2
pub record LeafPut (low : Condition) (w net : List ℕ) (r : ℕ) (of : Extent) (net' : List ℕ) : Type 0 where
  pub none : 8 ≤ low.number → TreePut (fixed (at w 0)) net r of net'
  pub one : low.number < 8 → TreePut (lookup low.number (tabulate low.values (at w))) net r of net'

-- a function over the places b at the front of a buffer with parts of as many cells as ks has, to be moved to ks: with as many cells these
-- are the same places
pub record SpreadRoom (w ks b : List ℕ) (n c : ℕ) : Type 0 where
  pub shaped : Shaped ks
  pub fewer : Shaped b
  pub left : n ≡ cells b
  pub all : c ≡ cells ks
  pub less : n ≤ c
  pub same : n ≡ c → b ≡ ks
  pub room : 8 * c ≤ length w

pub record SpreadLaid (ks b w w' : List ℕ) : Type 0 where
  pub here : part w' 0 (cells ks) ≡ moved b ks (part w 0 (cells b))
  pub len : length w' ≡ length w

-- a join's blocks have their networks: the gate over them, and the join's function where it is wanted
pub record Closed (by : Gate) (ks b : List ℕ) (c : ℕ) (first second : Extent) (want : Bool) (w net : List ℕ) (of : Extent) (w' net' : List ℕ) : Type 0 where
  pub gate : GatePut by first second net of net'
  pub function : Wanted want (JoinedLaid by ks b c w) w w'
