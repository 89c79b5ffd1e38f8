-- 01, Stages, step 6: what a split does for one value.
use Rattle.std.specs.Prelude.{ℕ, ◌+◌, ◌*◌, ◌≤◌, ◌<◌, ◌≡◌, List, eqb, length}
use Rattle.rules.specs.declared.Gate.TheVariants.{Min, Max}
use Rattle.rules.specs.Bytes.{pick, tabulate}
use Rattle.rules.specs.Tree.{lookup}
use Rattle.moves.specs.Row.{Rows}
use Rattle.stage_steps.specs.declared.gates.Extent.{Extent}
use Rattle.stage_steps.specs.Extents.{TreePut, GateRoom, GatePut}
use Rattle.stage_steps.specs.Rows.{RowsLaid}

-- room for the tables of one value behind the parts of c bytes; i is the condition, and a row and the next of that value are apart by so much
pub record ValueRoom (w : List ℕ) (i n stp apart values c k r : ℕ) : Type 0 where
  pub there : i < 8
  pub below : k < values
  pub rows : Rows stp n
  pub gap : apart ≡ stp * values
  pub few : values ≤ 8
  pub own : values * n ≡ c
  pub work : 8 * c + 4 * n ≤ length w
  pub number : r < 65536

-- the literal that selects k is record r, and the limits of the stage for k and its masks stand at 8 × c; condition i is not there, and its
-- bit is free
pub record ValueBegun (i stp values n c k top : ℕ) (w net : List ℕ) (r : ℕ) (of : Extent) (w' net' : List ℕ) : Type 0 where
  pub put : TreePut (lookup i (tabulate values (λ v. pick (eqb v k) top 0))) net r of net'
  pub tables : RowsLaid w i n stp values c k 4 w'

-- the function of the stage for k at 8 × c, and room for all in part 4
pub record KeepRoom (w : List ℕ) (n stp apart values c k : ℕ) : Type 0 where
  pub some : 0 < n
  pub below : k < values
  pub rows : Rows stp n
  pub gap : apart ≡ stp * values
  pub own : values * n ≡ c
  pub work : 8 * c + n ≤ length w

-- the stage for k has its network: room for a min over its literal and that, and from the second value on for a max over the total so far and
-- this min
pub record EndRoom (k : ℕ) (total literal of : Extent) : Type 0 where
  pub least : GateRoom literal of
  pub greatest : 0 < k → {net net' : List ℕ} {part : Extent} → GatePut Min literal of net part net' → GateRoom total part

-- both gates
pub record Totalled (total literal of : Extent) (net : List ℕ) (r : Extent) (net' : List ℕ) : Type 0 where
  pub part : Extent
  pub between : List ℕ
  pub least : GatePut Min literal of net part between
  pub greatest : GatePut Max total part between r net'

pub record ValueEnded (k : ℕ) (total literal of : Extent) (net : List ℕ) (r : Extent) (net' : List ℕ) : Type 0 where
  pub first : k ≡ 0 → GatePut Min literal of net r net'
  pub later : 0 < k → Totalled total literal of net r net'
