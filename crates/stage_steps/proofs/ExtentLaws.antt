-- Networks that stand one behind the other, and the gate over them.
use Prim.Native.Nat.{ℕ, suc, ◌+◌, ◌-◌, ◌≤◌, max}
use mathlib.Core.Path.{◌≡◌, ◌∙◌, ap₂}
use mathlib.Core.List.{List, [], ◌∷◌, ◌++◌}
use native.Mathlib.Omega.{arith}
use lib.ListN.{length, length-append}
use Rattle.rules.specs.declared.Gate.{Gate}
use Rattle.rules.specs.Network.{gate}
use Rattle.rules.specs.Tree.{Tree, gated, size, tree_depth, records}
use Rattle.laws.proofs.TreeLaws.{size_pos, length-records}
use Rattle.laws.proofs.DepthLaws.{depth-size}
use Rattle.network_records.specs.Putting.{Put}
use Rattle.network_records.proofs.PutLaws.{put_then, put_as}
use Rattle.stage_steps.specs.declared.gates.Extent.{Extent}
use Rattle.stage_steps.specs.Extents.{ExtentOf, TreePut, GateRoom, GatePut}

-- a tree of one record
pub tree-one : (t : Tree) {net : List ℕ} {r : ℕ} {net' : List ℕ} → size t ≡ 1 → tree_depth t ≡ 0 → Put net r (records t r) net'
    → TreePut t net r (record { next = r + 1; depth = 0 }) net'
tree-one t e d p = record { extent = record { next = omega arith; depth = omega arith }; put = p }

-- of two trees, the second behind the first
module _ {a b : Tree} {r : ℕ} {left right : Extent} (p : ExtentOf a r left) (q : ExtentOf b left.next right) where
  pub gate-room : r + (size a + size b + 1) ≤ 65536 → GateRoom left right
  gate-room h =
      let e = p.next in
      let f = q.next in
      let d = p.depth in
      let g = q.depth in
      let some = size_pos a in
      let some' = size_pos b in
      let few = depth-size a in
      let few' = depth-size b in
      record { first = omega arith; second = omega arith; numbers = omega arith; first-depth = omega arith; second-depth = omega arith }

  pub gate-extent : {by : Gate} {net : List ℕ} {of : Extent} {net' : List ℕ} → GatePut by left right net of net' → ExtentOf (gated by a b) r of
  gate-extent g =
      record {
        next = let e = p.next in let f = q.next in let h = g.next in omega arith;
        depth = g.depth ∙ ap₂ (λ (x y : ℕ). suc (max x y)) p.depth q.depth;
      }

pub tree-gate : {by : Gate} {a b : Tree} {net : List ℕ} {r : ℕ} {left : Extent} {v : List ℕ} {right : Extent} {u : List ℕ} {of : Extent} {net' : List ℕ}
    → TreePut a net r left v → TreePut b v left.next right u → GatePut by left right u of net' → TreePut (gated by a b) net r of net'
tree-gate {by} {a} {b} {net} {r} {left} {v} {right} {u} {of} {net'} p q g =
    let e : left.next ≡ r + size a = p.extent.next in
    let f : right.next ≡ left.next + size b = q.extent.next in
    let d : left.next ≡ r + length (records a r) = omega (arith, length-records a r) in
    let n : right.next ≡ r + length (records a r ++ records b left.next) =
    omega (arith, length-append (records a r) (records b left.next), length-records a r, length-records b left.next) in
    let k : right.next ≡ r + size a + size b = omega arith in
    record {
      extent = gate-extent p.extent q.extent g;
      put = put_as (ap₂ (λ (x z : ℕ). (records a r ++ records b x) ++ (gate by (x - 1) (z - 1) ∷ [])) e k) (put_then n (put_then d p.put q.put) g.put);
    }
