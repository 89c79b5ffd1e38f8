-- How far networks reach that stand one behind the other, and the gates over them.
use Rattle.std.specs.Prelude.{ℕ, suc, ◌+◌, ◌-◌, ◌<◌, max, ◌≡◌, List, [], ◌∷◌}
use Rattle.rules.specs.declared.Gate.{Gate}
use Rattle.rules.specs.Network.{gate}
use Rattle.rules.specs.Tree.{Tree, size, tree_depth, records}
use Rattle.network_records.specs.Putting.{Put}
use Rattle.stage_steps.specs.declared.gates.Extent.{Extent}

-- that of a tree's records, the first of them numbered r
pub record ExtentOf (tree : Tree) (r : ℕ) (of : Extent) : Type 0 where
  pub next : of.next ≡ r + size tree
  pub depth : of.depth ≡ tree_depth tree

-- and they are put
pub record TreePut (tree : Tree) (net : List ℕ) (r : ℕ) (of : Extent) (net' : List ℕ) : Type 0 where
  pub extent : ExtentOf tree r of
  pub put : Put net r (records tree r) net'

-- a gate over two networks, each with a record: its number and theirs have two bytes
pub record GateRoom (left right : Extent) : Type 0 where
  pub first : 0 < left.next
  pub second : left.next < right.next
  pub numbers : right.next < 65536
  pub first-depth : left.depth < 65536
  pub second-depth : right.depth < 65536

pub record GatePut (by : Gate) (left right : Extent) (net : List ℕ) (of : Extent) (net' : List ℕ) : Type 0 where
  pub put : Put net right.next (gate by (left.next - 1) (right.next - 1) ∷ []) net'
  pub next : of.next ≡ right.next + 1
  pub depth : of.depth ≡ suc (max left.depth right.depth)
