-- 01, Stages, step 6: the stages of a split's values, one behind the other.
use Prim.Native.Nat.{ℕ, zero, suc, ◌+◌, ◌-◌, ◌*◌, ◌/◌, ◌%◌, ◌≤◌, ◌<◌}
use mathlib.Core.Path.{◌≡◌, refl, sym, ◌∙◌, ap, ap₂, subst}
use mathlib.Core.Bool.{Bool, true}
use mathlib.Core.List.{List}
use native.Mathlib.Nat.{add-zero, le_refl, mul-zero, mul-one, mul_comm, suc-mul, mul-le-mul_left, mul-le-mul_right, mul-div_cancel_left}
use native.Mathlib.Omega.{arith}
use borrow.Rule.Slice.PartMut.{put_mid}
use borrow.Author.Count.{below_more}
use lib.Dec.{eqb, ltb→lt}
use lib.ListN.{length, drop}
use lib.Seq.{ext_get_or}
use Rattle.rules.specs.declared.Gate.TheVariants.{Max}
use Rattle.rules.specs.Bytes.{at, pick, tabulate}
use Rattle.rules.specs.declared.Settings.{Settings}
use Rattle.rules.specs.Cell.{cells, card, width, step, value, remap, singleton, without}
use Rattle.rules.specs.Limits.{Limits}
use Rattle.rules.specs.Tree.{Tree, lookup, gated, size}
use Rattle.rules.specs.Stage.{Stage, cofactor_cell, cofactor_stage, computed, selector, split_part, split_to, split_tree, tree_of}
use Rattle.laws.proofs.TestLaws.{by_order}
use Rattle.laws.proofs.TableLaws.{length-tabulate_from}
use Rattle.laws.proofs.CellLaws.{cells_pos, value_lt, cell_lt, present_lt, without_pos}
use Rattle.laws.proofs.LineLaws.{step_pos, cells-without}
use Rattle.laws.proofs.SplitLaws.{cofactor_lt, cofactor-value, cofactor_of, cofactor-step, condition-cells}
use Rattle.laws.proofs.WeakLaws.{one_fewer}
use Rattle.laws.proofs.StageLaws.{Ready, cofactor-ready}
use Rattle.laws.proofs.FunctionLaws.{splitted}
use Rattle.tables.specs.Part.{part, Laid, stage_at}
use Rattle.tables.proofs.PartLaws.{part_at, part_same, part_length, laid-part}
use Rattle.moves.specs.Row.{in_row, Rows, Scattered}
use Rattle.masks.specs.Masks.{Beside, Known}
use Rattle.masks.proofs.CofactorLaws.{cofactored, cofactored_as}
use Rattle.masks.proofs.KnownLaws.{known_split}
use Rattle.stage_drops.specs.Working.{front_stage}
use Rattle.stage_steps.specs.declared.gates.Extent.{Extent}
use Rattle.stage_steps.specs.declared.cuts.Cut.{Cut}
use Rattle.stage_steps.specs.Cuts.{IsCut}
use Rattle.stage_steps.specs.Extents.{TreePut}
use Rattle.stage_steps.specs.Rows.{value_cells}
use Rattle.stage_steps.specs.Values.{ValueRoom, ValueBegun, KeepRoom, EndRoom, ValueEnded}
use Rattle.stage_steps.specs.Wanting.{Wanted}
use Rattle.stage_steps.proofs.WantLaws.{wanted-both, wanted-length}
use Rattle.stage_steps.proofs.ExtentLaws.{gate-room, gate-extent, tree-gate}
use Rattle.stages.specs.Staging.{Starts, Written, Smaller, Splits, Divided}
use Rattle.stages.proofs.LentLaws.{rest, rest_part, Back}
use Rattle.stages.proofs.ChildLaws.{proper-ready, written_as, smaller_behind, stage_rank, rank-fewer, Lent, child-stage, child_starts, child-back, child-function}

-- the tree of the values up to k, and of those before it
module _ (how : Settings) (m a : ℕ) (x : Stage) where
  abbrev child : ℕ → Tree
  child k = tree_of how m true (cofactor_stage a k x)

  abbrev pub part-tree : ℕ → Tree
  part-tree k = split_part m (tree_of how m) a x k

  abbrev pub up_to : ℕ → Tree
  up_to k = split_to m (tree_of how m) a x k

  split-next : (k : ℕ) → 0 < k → up_to k ≡ gated Max (up_to (k - 1)) (part-tree k)
  split-next zero h = absurd (omega arith)
  split-next (suc k) h = let e : k ≡ suc k - 1 = omega arith in ap (λ (n : ℕ). gated Max (up_to n) (part-tree (suc k))) e

  -- no more records than all values have
  size_up : (d k : ℕ) → size (up_to k) ≤ size (up_to (k + d))
  size_up zero k = subst (λ (n : ℕ). size (up_to k) ≤ size (up_to n)) (sym (add-zero k)) (le_refl _)
  size_up (suc d) k =
      let e : suc (k + d) ≡ k + suc d = omega arith in
      subst (λ (n : ℕ). size (up_to k) ≤ size (up_to n)) e (let h = size_up d k in omega arith)

  size-most : (k v : ℕ) → k < v → size (up_to k) ≤ size (up_to (v - 1))
  size-most k v h = let e : k + (v - 1 - k) ≡ v - 1 = omega arith in subst (λ (n : ℕ). size (up_to k) ≤ size (up_to n)) e (size_up (v - 1 - k) k)

  -- the network of the values below k
  pub record SoFar (net₀ : List ℕ) (r k : ℕ) (total : Extent) (net : List ℕ) : Type 0 where
    pub none : k ≡ 0 → (total.next ≡ r) × (net ≡ net₀)
    pub some : 0 < k → TreePut (up_to (k - 1)) net₀ r total net

  -- the one of value k follows: its records are those of the values up to k
  module _ {net₀ : List ℕ} {r k : ℕ} {total : Extent} {net : List ℕ} (u : SoFar net₀ r k total net) where
    next-size : total.next + size (part-tree k) ≤ r + size (up_to k)
    next-size = by_order k 0 (λ z. go k u (omega arith)) (λ h. let e = ap size (split-next k h) in let f = (u.some h).extent.next in omega arith)
      where
        go : (k : ℕ) → SoFar net₀ r k total net → k ≡ 0 → total.next + size (part-tree k) ≤ r + size (up_to k)
        go zero u z = let f = (u.none refl).0 in omega arith
        go (suc k) u z = absurd (omega arith)

    module _ {literal of : Extent} {v net₁ : List ℕ} (p : TreePut (selector m x.ks a k) net total.next literal v) (q : TreePut (child k) v literal.next of net₁)
        (few : r + size (up_to k) ≤ 65536) where
      end-room : EndRoom k total literal of
      end-room =
          let n = next-size in
          record {
            least = gate-room p.extent q.extent (omega arith);
            greatest = λ h g.
                gate-room (u.some h).extent (gate-extent p.extent q.extent g) (let e = ap size (split-next k h) in omega arith);
          }

      so_far_more : {of' : Extent} {net' : List ℕ} → ValueEnded k total literal of net₁ of' net' → SoFar net₀ r (k + 1) of' net'
      so_far_more {of'} {net'} e =
          record { none = λ z. absurd (omega arith); some = λ h. let i : k ≡ k + 1 - 1 = omega arith in subst (λ (n : ℕ). TreePut (up_to n) net₀ r of' net') i whole }
        where
          first : (k : ℕ) → k ≡ 0 → SoFar net₀ r k total net → TreePut (part-tree k) net total.next of' net' → TreePut (up_to k) net₀ r of' net'
          first zero z u t = let n = u.none refl in subst (λ (w : List ℕ). TreePut (part-tree 0) w r of' net') n.1 (subst (λ (a : ℕ). TreePut (part-tree 0) net a of' net') n.0 t)
          first (suc k) z u t = absurd (omega arith)

          whole : TreePut (up_to k) net₀ r of' net'
          whole =
              by_order k 0
              (λ z. let o : k ≡ 0 = omega arith in first k o u (tree-gate p q (e.first o)))
              (λ h.
              let g = e.later h in
              subst (λ (t : Tree). TreePut t net₀ r of' net') (sym (split-next k h)) (tree-gate (u.some h) (tree-gate p q g.least) g.greatest))

-- what a split reads off its places: the places b without condition a, their n cells, the cells of a row, and the values
pub record Axis (ks : List ℕ) (a : ℕ) (b : List ℕ) (n stp values : ℕ) : Type 0 where
  pub number : a < 8
  pub places : b ≡ without (singleton a) ks
  pub count : n ≡ cells b
  pub row : stp ≡ step ks a
  pub cardinality : values ≡ card ks a

-- the values below k are done: the limits and the masks stay, and their functions are in part 4 where they are wanted
pub record Turn (how : Settings) (m a : ℕ) (ks : List ℕ) (c : ℕ) (want : Bool) (w₀ net₀ : List ℕ) (r k : ℕ) (total : Extent) (w net : List ℕ) : Type 0 where
  pub so_far : SoFar how m a (front_stage ks w₀) net₀ r k total net
  pub front : (j : ℕ) → j < 4 * c → at w j ≡ at w₀ j
  pub done : want ≡ true → (q j : ℕ) → q < k → j < cells (without (singleton a) ks)
      → at w (4 * c + cofactor_cell ks a q j) ≡ at (computed (without (singleton a) ks) (tree_of how m true (cofactor_stage a q (front_stage ks w₀)))) j
  pub len : length w ≡ length w₀

pub turn-none : (how : Settings) (m a : ℕ) (ks : List ℕ) (c : ℕ) (want : Bool) (w net : List ℕ) (r : ℕ) → Turn how m a ks c want w net r 0 (record { next = r; depth = 0 }) w net
turn-none how m a ks c want w net r =
    record {
      so_far = record { none = λ z. (refl, refl); some = λ h. absurd (omega arith) };
      front = λ j h. refl;
      done = λ e q j h. absurd (omega arith);
      len = refl;
    }

-- value k in turn
pub record InTurn (how : Settings) (m a : ℕ) (ks : List ℕ) (c : ℕ) (want : Bool) (w₀ net₀ : List ℕ) (r : ℕ) (b : List ℕ) (n stp values k : ℕ) (total : Extent) (w net : List ℕ) : Type 0 where
  pub splits : Splits how m a ks c w₀ r
  pub axis : Axis ks a b n stp values
  pub turn : Turn how m a ks c want w₀ net₀ r k total w net
  pub below : k < values

-- the condition that is split on, by the number that it was found to have
module _ {ks : List ℕ} {a : ℕ} {on : Cut} (is : IsCut ks a on) where
  pub found-cut : IsCut ks on.number on
  found-cut = record { number = refl; values = is.values ∙ ap (card ks) (sym is.number); step_is = is.step_is ∙ ap (step ks) (sym is.number) }

  pub found-splits : {how : Settings} {m c : ℕ} {w : List ℕ} {r : ℕ} → Splits how m a ks c w r → Splits how m on.number ks c w r
  found-splits {how} {m} {c} {w} {r} = subst (λ (i : ℕ). Splits how m i ks c w r) (sym is.number)

  pub found_divided : {how : Settings} {m c : ℕ} {want : Bool} {w net : List ℕ} {r : ℕ} {of : Extent} {w' net' : List ℕ}
      → Divided how m on.number ks c want w net r of w' net' → Divided how m a ks c want w net r of w' net'
  found_divided {how} {m} {c} {want} {w} {net} {r} {of} {w'} {net'} = subst (λ (i : ℕ). Divided how m i ks c want w net r of w' net') is.number

module _ {how : Settings} {m a : ℕ} {ks : List ℕ} {c : ℕ} {w₀ : List ℕ} {r : ℕ} (h : Splits how m a ks c w₀ r) where
  abbrev x : Stage
  x = front_stage ks w₀

  abbrev b : List ℕ
  b = without (singleton a) ks

  abbrev v : ℕ
  v = card ks a

  ready : Ready m x
  ready = proper-ready h.whole.left.own.shaped.some h.whole.left.proper

  two : 2 ≤ v
  two = ltb→lt 1 v h.there

  small : Smaller ks (singleton a)
  small =
      let e = condition-cells ks a in
      let l = mul-le-mul_right (cells b) two in
      record { half = omega arith; fewer = one_fewer ks a h.there }

  pub number-below : length ks ≡ 8 → a < 8
  number-below e = let l = present_lt ks a h.there in omega arith

  -- so from the condition, by its values and the cells of a row
  module _ {on : Cut} (is : IsCut ks a on) where
    pub axis : {b₀ : List ℕ} → length ks ≡ 8 → b₀ ≡ without (singleton a) ks → Axis ks a b₀ (c / on.values) on.step on.values
    axis eight e =
        record {
          number = number-below eight;
          places = e;
          count =
              ap₂ (λ (x y : ℕ). x / y) h.whole.left.own.own is.values
              ∙ ap (λ (y : ℕ). y / v) (sym (condition-cells ks a)) ∙ mul-div_cancel_left (cells b) (let t = two in omega arith) ∙ ap cells (sym e);
          row = is.step_is;
          cardinality = is.values;
        }

  module _ {b₀ : List ℕ} {n stp values : ℕ} (z : Axis ks a b₀ n stp values) where
    cell-count : n ≡ cells b
    cell-count = z.count ∙ ap cells z.places

    pub all-cells : values * n ≡ cells ks
    all-cells = ap₂ (λ (p q : ℕ). p * q) z.cardinality cell-count ∙ condition-cells ks a

    -- its cells are whole rows
    rows : Rows stp n
    rows =
        record {
          some = let e = z.row in let s = step_pos ks a ready.pos in omega arith;
          count = cells (drop (suc a) ks);
          all = cell-count ∙ cells-without ks a (present_lt ks a h.there) ∙ ap (λ (s : ℕ). s * cells (drop (suc a) ks)) (sym z.row);
        }

    some : 0 < n
    some = let e = cell-count in let q = cells_pos b (without_pos (singleton a) ks ready.pos) in omega arith

    -- a row and the next of one value are within the table
    pub apart_low : stp * values ≤ c
    apart_low =
        let o = h.whole.left.own.own in
        let e = rows.all in
        let y = all-cells in
        let q : 1 ≤ rows.count = by_order 1 rows.count (λ le. le) (λ lt. absurd (let z : rows.count ≡ 0 = omega arith in omega (arith, some, ap (λ (x : ℕ). stp * x) z, mul-zero stp))) in
        omega (arith, mul_comm stp values, mul-le-mul_left values (let l : stp ≤ n = omega (arith, mul-le-mul_left stp q, mul-one stp) in l))

    -- where they stand among all
    place : (q j : ℕ) → q < v → j < cells b → cofactor_cell ks a q j ≡ in_row stp values q j
    place q j hq hj =
        cofactor-step ks a q j ready.pos hq hj ∙ ap₂ (λ (s u : ℕ). j % s + s * (q + u * (j / s))) (sym z.row) (sym z.cardinality)

    -- value k in turn
    module _ {want : Bool} {net₀ : List ℕ} {k : ℕ} {total : Extent} {w net : List ℕ} (u : Turn how m a ks c want w₀ net₀ r k total w net) (lt : k < values) where
      hk : k < v
      hk = let q = z.cardinality in omega arith

      -- the numbers of its records
      few : r + size (up_to how m a x k) ≤ 65536
      few = let g = size-most how m a x k v hk in let j = h.numbers in omega arith

      part-few : total.next + size (part-tree how m a x k) ≤ 65536
      part-few = let f = few in let n = next-size how m a x u.so_far in omega arith

      pub value_room : ValueRoom w a n stp (stp * values) values c k total.next
      value_room =
          let f = h.whole.left.few a in
          let q = z.cardinality in
          let o = h.whole.left.own.own in
          let s = h.whole.left.work in
          let d = u.len in
          let g = part-few in
          let p = small.half in
          let e = cell-count in
          let y = all-cells in
          record { there = z.number; below = lt; rows = rows; gap = refl; few = omega arith; own = omega arith; work = omega arith; number = omega arith }

      module _ {literal : Extent} {w₁ net₁ : List ℕ} (g : ValueBegun a stp values n c k (m - 1) w net total.next literal w₁ net₁) where
        length-one : length w₁ ≡ length w₀
        length-one = g.tables.len ∙ u.len

        -- what the limits and the masks of its cells are taken from
        taken : (q : ℕ) → q < 4 → value_cells (part w (q * c) (values * n)) n stp values k ≡ cofactored ks a k (part w₀ (q * cells ks) (cells ks))
        taken q l =
            cofactored_as ks (part w (q * c) (values * n)) a n stp values k ready.pos hk cell-count z.row z.cardinality
            ∙ ap (cofactored ks a k) (ap₂ (λ (y z : ℕ). part w (q * y) z) h.whole.left.own.own all-cells ∙ same)
          where
            same : part w (q * cells ks) (cells ks) ≡ part w₀ (q * cells ks) (cells ks)
            same =
                let o = h.whole.left.own.own in
                let s = h.whole.left.work in
                let e : suc q * cells ks ≤ 4 * cells ks = mul-le-mul_right (cells ks) l in
                let f = suc-mul q (cells ks) in
                part_same w₀ w (q * cells ks) (cells ks) (omega arith) u.len (λ j lj. u.front (q * cells ks + j) (omega arith))

        table_at : (q : ℕ) → q < 2 → part w₁ (8 * c + q * cells b) (cells b) ≡ cofactored ks a k (part w₀ (q * cells ks) (cells ks))
        table_at q l =
            ap (λ (s : ℕ). part w₁ (8 * c + q * s) s) (sym cell-count) ∙ g.tables.limits q (omega arith) l ∙ taken q (omega arith)

        masks-at : (q : ℕ) → q < 4 → Beside a (cells b) (cofactored ks a k (part w₀ (q * cells ks) (cells ks))) (part w₁ (8 * c + q * cells b) (cells b))
        masks-at q l =
            subst (λ (s : ℕ). Beside a s (cofactored ks a k (part w₀ (q * cells ks) (cells ks))) (part w₁ (8 * c + q * s) s)) cell-count
            (subst (λ (t : List ℕ). Beside a n t (part w₁ (8 * c + q * n) n)) (taken q l) (g.tables.masks q l))

        value_lent : Lent m x c w₀ (singleton a) true b₀ w₁
        value_lent = record { left = h.whole.left; room = smaller_behind (singleton a) h.whole.left small; places = z.places; len = length-one }

        value-stage : stage_at b₀ (rest (8 * c) w₁) 0 (cells b₀) ≡ cofactor_stage a k x
        value-stage =
            child-stage value_lent
            (ap (λ (p : List ℕ). stage_at p w₁ (8 * c) (8 * c + cells p)) z.places
            ∙ ap₂ (λ (l t : List ℕ). limited (record { lower = l; upper = t }))
            (one 0 (8 * c) 0 (omega arith) (omega arith) (omega arith)) (one 1 (8 * c + cells b) (cells ks) (omega arith) (omega arith) (omega arith)))
          where
            limited : Limits → Stage
            limited l = record { ks = b; limits = l }

            one : (q i d : ℕ) → q < 2 → 8 * c + q * cells b ≡ i → q * cells ks ≡ d → part w₁ i (cells b) ≡ cofactored ks a k (part w₀ d (cells ks))
            one q i d l e f = ap (λ (s : ℕ). part w₁ s (cells b)) (sym e) ∙ table_at q l ∙ ap (λ (s : ℕ). cofactored ks a k (part w₀ s (cells ks))) f

        value_known : Known m b₀ (rest (8 * c) w₁)
        value_known =
            subst (λ (p : List ℕ). Known m p (rest (8 * c) w₁)) (sym z.places)
            (known_split a k ready.pos hk (rest (8 * c) w₁) (λ q l. behind q (omega arith) ∙ table_at q l)
            (λ q l. subst (Beside a (cells b) _) (sym (behind q l)) (masks-at q l)) h.whole.masks)
          where
            behind : (q : ℕ) → q < 4 → part (rest (8 * c) w₁) (q * cells b) (cells b) ≡ part w₁ (8 * c + q * cells b) (cells b)
            behind q l =
                let o = h.whole.left.own.own in
                let s = h.whole.left.work in
                let d = length-one in
                let e : suc q * cells b ≤ 4 * cells b = mul-le-mul_right (cells b) l in
                let f = suc-mul q (cells b) in
                let p = small.half in
                rest_part (8 * c) (q * cells b) (cells b) w₁ (omega arith)

        pub value_falls : stage_rank true b₀ < 16 * width ks
        value_falls = rank-fewer true b₀ ks (let e = ap width z.places in let f = small.fewer in omega arith)

        pub value_starts : Starts how m b₀ n true true (rest (8 * c) w₁) literal.next
        value_starts =
            child_starts value_lent (cofactor_stage a k x).limits z.count value-stage (cofactor-ready x ready.pos a k m ready hk) (λ e. value_known)
            (let d = part-few in let f = g.put.extent.next in omega arith)

        -- its stage is done
        module _ {v' net₂ : List ℕ} {of : Extent} (y : Written b₀ (tree_of how m true (stage_at b₀ (rest (8 * c) w₁) 0 (cells b₀))) 0 want (rest (8 * c) w₁) net₁ literal.next of v' net₂) where
          child-done : Written b (tree_of how m true (cofactor_stage a k x)) 0 want (rest (8 * c) w₁) net₁ literal.next of v' net₂
          child-done = written_as how m true (cofactor_stage a k x) value-stage y

          selected : TreePut (selector m ks a k) net total.next literal net₁
          selected =
              subst (λ (t : Tree). TreePut t net total.next literal net₁)
              (ap (λ (q : ℕ). lookup a (tabulate q (λ i. pick (eqb i k) (m - 1) 0))) z.cardinality) g.put

          pub value-back : Back (8 * c) w₁ v' (put_mid (8 * c) (length w₁ - 8 * c) w₁ v')
          value-back = child-back value_lent y.len

          pub gates_room : EndRoom k total literal of
          gates_room = end-room how m a x u.so_far selected child-done.put few

          module _ {w₂ : List ℕ} (back : Back (8 * c) w₁ v' w₂) where
            length_two : length w₂ ≡ length w₀
            length_two = back.len ∙ length-one

            pub value_keep : KeepRoom w₂ n stp (stp * values) values c k
            value_keep =
                let o = h.whole.left.own.own in
                let s = h.whole.left.work in
                let d = length_two in
                let p = small.half in
                let q = cell-count in
                let y = all-cells in
                record { some = some; below = lt; rows = rows; gap = refl; own = omega arith; work = omega arith }

            -- what stood in the parts of the stage
            before_child : (j : ℕ) → j < 8 * c → at w₂ j ≡ at w j
            before_child j l = back.front j l ∙ g.tables.before j l

            child-table : want ≡ true → (j : ℕ) → j < cells b → at (part w₂ (8 * c) n) j ≡ at (computed b (tree_of how m true (cofactor_stage a k x))) j
            child-table e j l = ap (λ (f : List ℕ). at f j) (ap (part w₂ (8 * c)) z.count ∙ child-function value_lent back (child-done.function e))

            -- its function is laid at the cells with value k, where it is wanted
            module _ {w₃ : List ℕ} (f : Wanted want (Scattered w₂ (4 * c) (in_row stp values k) (at (part w₂ (8 * c) n)) n) w₂ w₃) where
              off-line : (j : ℕ) → j < 4 * c → at w₃ j ≡ at w j
              off-line j l = wanted-both f (λ s. s.off j (λ q lt e. omega arith)) (λ e. ap (λ (v : List ℕ). at v j) e) ∙ before_child j (omega arith)

              other-value : want ≡ true → (q j : ℕ) → q < k → j < cells b → at w₃ (4 * c + cofactor_cell ks a q j) ≡ at w (4 * c + cofactor_cell ks a q j)
              other-value e q j l lj =
                  let o = h.whole.left.own.own in
                  let hq : q < v = let y = hk in omega arith in
                  let t : cofactor_cell ks a q j < cells ks = cofactor_lt ks a ready.pos q j hq in
                  (f.on e).off (4 * c + cofactor_cell ks a q j)
                  (λ i li e.
                  let di : i < cells b = let n = cell-count in omega arith in
                  let same : cofactor_cell ks a q j ≡ cofactor_cell ks a k i = let p = place k i hk di in omega arith in
                  let digits : q ≡ k = sym (cofactor-value ks a ready.pos q j hq) ∙ ap (λ (p : ℕ). value ks p a) same ∙ cofactor-value ks a ready.pos k i hk in
                  omega arith)
                  ∙ before_child (4 * c + cofactor_cell ks a q j) (omega arith)

              this_value : want ≡ true → (j : ℕ) → j < cells b → at w₃ (4 * c + cofactor_cell ks a k j) ≡ at (computed b (tree_of how m true (cofactor_stage a k x))) j
              this_value e j l =
                  let n = cell-count in
                  ap (λ (p : ℕ). at w₃ (4 * c + p)) (place k j hk l) ∙ (f.on e).on j (omega arith) ∙ child-table e j l

              pub turn_more : {total' : Extent} {net₃ : List ℕ} → ValueEnded k total literal of net₂ total' net₃ → Turn how m a ks c want w₀ net₀ r (k + 1) total' w₃ net₃
              turn_more p =
                  record {
                    so_far = so_far_more how m a x u.so_far selected child-done.put few p;
                    front = λ j l. off-line j l ∙ u.front j l;
                    done =
                        λ e q j l lt.
                        below_more (λ (q : ℕ). at w₃ (4 * c + cofactor_cell ks a q j) ≡ at (computed b (tree_of how m true (cofactor_stage a q x))) j) k
                        (λ q l. other-value e q j l lt ∙ u.done e q j l lt) (this_value e j lt) q l;
                    len = wanted-length f (λ s. s.len) ∙ length_two;
                  }

    -- all values done
    module _ {want : Bool} {net₀ : List ℕ} {k : ℕ} {total : Extent} {w net : List ℕ} (u : Turn how m a ks c want w₀ net₀ r k total w net) (e : k ≡ values) where
      pub split-whole : Divided how m a ks c want w₀ net₀ r total w net
      split-whole =
          let d = z.cardinality in
          record {
            written =
                record {
                  put =
                      subst (λ (q : ℕ). TreePut (up_to how m a x (q - 1)) net₀ r total net) (e ∙ d)
                      (u.so_far.some (let t = two in omega arith));
                  function = all-values;
                  len = u.len;
                };
            front = u.front;
          }
        where
          all-values : want ≡ true → part w (4 * c) (cells ks) ≡ computed ks (split_tree m (tree_of how m) a x)
          all-values wanted =
              let o = h.whole.left.own.own in
              let s = h.whole.left.work in
              let d = u.len in
              let n = part_length w (4 * c) (cells ks) (omega arith) in
              ext_get_or 0 _ _ (n ∙ sym (length-tabulate_from _ 0 (cells ks)))
              (λ q lt.
              let lq : q < cells ks = omega arith in
              let digit : ℕ = value ks q a in
              let other : ℕ = remap ks b q in
              let back : cofactor_cell ks a digit other ≡ q = cofactor_of ks a ready.pos q lq in
              let ld : digit < v = value_lt ks q a ready.pos in
              let lo : other < cells b = cell_lt b (value ks q) (without_pos (singleton a) ks ready.pos) in
              let t = z.cardinality in
              part_at w (4 * c) (cells ks) q lq ∙ ap (λ (p : ℕ). at w (4 * c + p)) (sym back) ∙ u.done wanted digit other (omega arith) lo
              ∙ sym (splitted how m x ready a h.there digit other ld lo) ∙ ap (at (computed ks (split_tree m (tree_of how m) a x))) back)

-- a function in part 4, copied to the front where it is wanted
pub collected : (ks : List ℕ) {c : ℕ} {want : Bool} {w w' f : List ℕ} → c ≡ cells ks → 5 * c ≤ length w → Wanted want (Laid w 0 (part w (4 * c) c) c) w w'
    → (want ≡ true → part w (4 * c) (cells ks) ≡ f) → want ≡ true → part w' 0 (cells ks) ≡ f
collected ks {c} {w = w} {w'} o s l h q =
    ap (part w' 0) (sym o) ∙ laid-part (l.on q) (omega arith) (part_length w (4 * c) c (omega arith)) ∙ ap (part w (4 * c)) o ∙ h q

-- so that of a split
module _ {how : Settings} {m a : ℕ} {ks : List ℕ} {c : ℕ} {want : Bool} {w₀ net₀ : List ℕ} {r : ℕ} {total : Extent} {w net : List ℕ} (h : Splits how m a ks c w₀ r)
    (d : Divided how m a ks c want w₀ net₀ r total w net) where
  pub collect_room : 5 * c ≤ length w
  collect_room = let s = h.whole.left.work in let e = d.written.len in omega arith

  pub split_done : {w' : List ℕ} → Wanted want (Laid w 0 (part w (4 * c) c) c) w w'
      → Written ks (split_tree m (tree_of how m) a (front_stage ks w₀)) 0 want w₀ net₀ r total w' net
  split_done l =
      record {
        put = d.written.put;
        function = collected ks h.whole.left.own.own collect_room l d.written.function;
        len = wanted-length l (λ s. s.len) ∙ d.written.len;
      }
