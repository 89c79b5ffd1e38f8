-- A stage from its plan to its function.
use Prim.Native.Nat.{ℕ, ◌*◌, ◌≤◌, ◌<◌}
use mathlib.Core.Path.{◌≡◌, refl, sym, ◌∙◌, ap, ap₂, subst}
use mathlib.Core.Bool.{Bool, true, false, ◌&&◌, ◌||◌}
use mathlib.Core.List.{List}
use native.Mathlib.Omega.{arith}
use lib.Dec.{T, ltb, ltb→lt}
use lib.ListN.{length}
use Rattle.rules.specs.declared.Gate.{Gate}
use Rattle.rules.specs.declared.Settings.{Settings}
use Rattle.rules.specs.Bytes.{at, tabulate}
use Rattle.rules.specs.Cell.{cells, card, present, width, lowest, moved}
use Rattle.rules.specs.Tree.{Tree}
use Rattle.rules.specs.Demands.{Admits}
use Rattle.rules.specs.Stage as rules
use Rattle.rules.specs.Settings.{split_condition}
use Rattle.rules.specs.Stage.{Stage, left, split, joining, chosen, computed, join_tree, fewest, choice_tree, left_tree, may_left, tree_of}
use Rattle.laws.proofs.TestLaws.{by_test, passed, and_r}
use Rattle.laws.proofs.TableLaws.{tabulate_self}
use Rattle.laws.proofs.CellLaws.{Sub, not-above, card_pos, cells_pos}
use Rattle.laws.proofs.TreeLaws.{size_pos}
use Rattle.laws.proofs.StageLaws.{Ready, Shrunk, left_shrunk, left-ready, admitted}
use Rattle.laws.proofs.KeepLaws.{left-half, may_cells}
use Rattle.laws.proofs.FuelLaws.{network-left, built}
use Rattle.laws.proofs.FunctionLaws.{spread, leaf}
use Rattle.laws.proofs.SplitLaws.{split-present}
use Rattle.tables.specs.Part.{part, Shaped}
use Rattle.tables.proofs.PartLaws.{part_length}
use Rattle.masks.specs.Masks.{Known}
use Rattle.grouping.specs.declared.Sets.{Sets}
use Rattle.stage_choice.specs.declared.Choice.{Choice}
use Rattle.stage_choice.specs.declared.Choice.TheVariants.{Leaf, Split, Join}
use Rattle.stage_drops.specs.Working.{front_stage}
use Rattle.stage_drops.proofs.DropLaws.{as_shaped}
use Rattle.stage_plan.specs.declared.Plan.{Plan}
use Rattle.stage_plan.specs.Planning.{Leaves, Splitting, Joining, Finds, Planned}
use Rattle.stage_blocks.specs.Blocks.{stage_of}
use Rattle.stage_steps.specs.declared.gates.Extent.{Extent}
use Rattle.stage_steps.specs.Extents.{TreePut}
use Rattle.stage_steps.specs.Ends.{LeafRoom, LeafPut, SpreadRoom, SpreadLaid}
use Rattle.stage_steps.specs.Wanting.{Wanted}
use Rattle.stage_steps.proofs.EndLaws.{leaf-tree}
use Rattle.stage_steps.proofs.WantLaws.{wanted-length}
use Rattle.stages.specs.Staging.{Numbered, Starts, Written, Left, Smaller, Joins, Joined, tried_if, Divides}
use Rattle.stages.proofs.ChildLaws.{proper-ready, ready-proper, smaller, smaller_behind, stage_rank, divide_rank, join_rank, stage-some}

few-sub : (b a : List ℕ) → Sub b a → ((i : ℕ) → card a i ≤ 8) → (i : ℕ) → card b i ≤ 8
few-sub b a s h i =
    by_test (present b i) (λ p. let e = s i p in let l = h i in omega arith) (λ n. let l = not-above (card b i) n in omega arith)

-- the same tree, and the same buffers
pub written-tree : {ks : List ℕ} {a b : Tree} {to : ℕ} {want : Bool} {w net : List ℕ} {r : ℕ} {e : Extent} {w' net' : List ℕ} → a ≡ b → Written ks a to want w net r e w' net'
    → Written ks b to want w net r e w' net'
written-tree {ks} {a} {b} {to} {want} {w} {net} {r} {e} {w'} {net'} q h = subst (λ (t : Tree). Written ks t to want w net r e w' net') q h

pub written-here : {ks : List ℕ} {t : Tree} {want : Bool} {w net : List ℕ} {r : ℕ} {e e₁ : Extent} {w' w₁ net' net₁ : List ℕ} → w₁ ≡ w' → net₁ ≡ net' → e₁ ≡ e
    → Written ks t 0 want w net r e w' net' → Written ks t 0 want w net r e₁ w₁ net₁
written-here {ks} {t} {want} {w} {net} {r} {e} {e₁} {w'} {w₁} {net'} {net₁} p q o h =
    subst (λ (i : Extent). Written ks t 0 want w net r i w₁ net₁) (sym o)
    (subst (λ (v : List ℕ). Written ks t 0 want w net r e w₁ v) (sym q) (subst (λ (v : List ℕ). Written ks t 0 want w net r e v net') (sym p) h))

module _ {how : Settings} {m : ℕ} {ks : List ℕ} {c : ℕ} {known may : Bool} {w : List ℕ} {r : ℕ} (s : Starts how m ks c known may w r) where
  abbrev x : Stage
  x = front_stage ks w

  abbrev y : Stage
  y = left x

  ready : Ready m x
  ready = proper-ready s.shaped.some s.proper

  shrunk : Shrunk x y
  shrunk = left_shrunk x ready.pos

  module _ {o : Plan} {w₁ : List ℕ} (p : Planned how m ks w o w₁) where
    abbrev l : List ℕ
    l = o.places

    places : l ≡ y.ks
    places = p.places

    less : cells l ≤ cells ks
    less = let e = ap cells places in let q = shrunk.less in omega arith

    shaped : Shaped l
    shaped = as_shaped places (record { some = shrunk.pos; few = let f = s.shaped.few in let q = shrunk.less in omega arith })

    few : (i : ℕ) → card l i ≤ 8
    few = subst (λ (k : List ℕ). (i : ℕ) → card k i ≤ 8) (sym places) (few-sub y.ks ks shrunk.sub s.few)

    pub fewer : width l ≤ width ks
    fewer = let e = ap width places in let q = shrunk.fewer in omega arith

    pub spread_room : {w₂ : List ℕ} → length w₂ ≡ length w₁ → SpreadRoom w₂ ks l o.cells c
    spread_room e =
        let q = s.work in
        let a = s.own in
        let f = p.does.len in
        let g = less in
        let en = p.own in
        record {
          shaped = s.shaped;
          fewer = shaped;
          left = en;
          all = a;
          less = omega arith;
          same = λ h. places ∙ shrunk.same (sym (ap cells places) ∙ sym en ∙ h ∙ a);
          room = omega arith;
        }

    -- whether it tries a weak join, told by its cells
    pub still : (how.weak && (may || ltb o.cells c)) ≡ (how.weak && may_left may x)
    still = ap (λ (b : Bool). how.weak && b) (ap₂ (λ (a b : ℕ). may || ltb a b) (p.own ∙ ap cells places) s.own ∙ sym (may_cells may x ready.pos))

    pub divide_falls : {q : Bool} → q ≡ (how.weak && may_left may x) → divide_rank q l < stage_rank may ks
    divide_falls {q} e = go may q e
      where
        go : (b q : Bool) → q ≡ (how.weak && may_left b x) → divide_rank q l < stage_rank b ks
        go true true e = let f = fewer in omega arith
        go true false e = let f = fewer in omega arith
        go false true e = let f = ltb→lt (width y.ks) (width ks) (and_r how.weak (may_left false x) (subst T e tt)) in let g = ap width places in omega arith
        go false false e = let f = fewer in omega arith

    pub join_falls : join_rank true l < stage_rank may ks
    join_falls = let f = stage-some may l ks fewer in omega arith

    -- the function of the conditions left, over all of the stage's own
    pub whole : {want : Bool} {w₂ w₃ net net' : List ℕ} {e : Extent} → Written l (tree_of how m may x) 0 want w₁ net r e w₂ net' → Wanted want (SpreadLaid ks l w₂) w₂ w₃
        → Written ks (tree_of how m may x) 0 want w net r e w₃ net'
    whole h g =
        record {
          put = h.put;
          function = λ q.
              (g.on q).here ∙ ap (moved l ks) (h.function q) ∙ ap (λ (k : List ℕ). moved k ks (computed k (tree_of how m may x))) places ∙ sym (spread how m may x ready);
          len = wanted-length g (λ f. f.len) ∙ h.len ∙ p.does.len;
        }

    -- step 2
    module _ (e : o.choice ≡ Leaf) where
      leaves : Leaves y w₁
      leaves = subst (λ (q : Choice). Finds how m y q w₁) e p.does.finds

      is-left : front_stage l w₁ ≡ y
      is-left = ap (λ (k : List ℕ). front_stage k w₁) places ∙ leaves.stage

      narrow : width l < 2
      narrow = let f = ap width places in let n = leaves.narrow in omega arith

      pub leaf_room : LeafRoom w₁ o.low r
      leaf_room =
          let q = s.work in
          let z = size_pos (tree_of how m may x) in
          let t = s.numbers in
          let v = p.lowest.values in
          let g = few (lowest l) in
          let n = p.does.len in
          record {
            some = omega (arith, card_pos l (lowest l) shaped.some);
            few = omega arith;
            work = omega (arith, cells_pos ks s.shaped.some);
            number = omega arith;
          }

      leaf-function : part w₁ 0 (cells l) ≡ computed l (tree_of how m may x)
      leaf-function =
          let q = s.work in
          let f = less in
          let d = p.does.len in
          let one : width y.ks ≤ 1 = let h = leaves.narrow in omega arith in
          let n : length y.limits.lower ≡ cells y.ks =
          ap length (sym (ap (λ (z : Stage). z.limits.lower) is-left)) ∙ part_length w₁ 0 (cells l) (omega arith) ∙ ap cells places in
          ap (λ (z : Stage). z.limits.lower) is-left
          ∙ sym (tabulate_self (at y.limits.lower) y.limits.lower (λ v h. refl)) ∙ ap (λ (k : ℕ). tabulate k (at y.limits.lower)) n
          ∙ sym (leaf how m may x ready one) ∙ ap (λ (k : List ℕ). computed k (tree_of how m may x)) (sym places)

      pub leaf-done : length l ≡ 8 → {want : Bool} {net net' : List ℕ} {i : Extent} → LeafPut o.low w₁ net r i net' → Written l (tree_of how m may x) 0 want w₁ net r i w₁ net'
      leaf-done eight {want} {net} {net'} {i} h =
          record {
            put =
                subst (λ (t : Tree). TreePut t net r i net') (sym (network-left how m may x ready.pos))
                (subst (λ (z : Stage). TreePut (left_tree how m (tree_of how m) (may_left may x) (width z.ks) z) net r i net') is-left
                (leaf-tree l w₁ shaped eight narrow p.lowest h how m (tree_of how m) (may_left may x) (part w₁ (cells l) (cells l))));
            function = λ q. leaf-function;
            len = refl;
          }

    -- steps 3 to 6
    tree_is : 2 ≤ width y.ks → (q : rules.Choice) → chosen how m y ≡ q → tree_of how m may x ≡ choice_tree how m (tree_of how m) (may_left may x) q y
    tree_is wide q e = ((built how m may x ready.pos).more_left wide).1 ∙ ap (λ (k : rules.Choice). choice_tree how m (tree_of how m) (may_left may x) k y) e

    left_here : 2 ≤ width y.ks → (z : Stage) → y ≡ z → Left m z o.cells w₁
    left_here wide z e =
        let q = s.work in
        let f = p.does.len in
        let h = less in
        let i = ap cells places in
        let n = p.own in
        subst (λ (z : Stage). Left m z o.cells w₁) e
        (record {
          own = record { shaped = as_shaped (sym places) shaped; own = n ∙ i; room = omega arith };
          few = few-sub y.ks ks shrunk.sub s.few;
          work = omega arith;
          wide = wide;
          proper = ready-proper (left-ready m x ready);
        })

    module _ (e : o.choice ≡ Split) where
      splitting : Splitting how m y w₁
      splitting = subst (λ (q : Choice). Finds how m y q w₁) e p.does.finds

      same : front_stage l w₁ ≡ y
      same = ap (λ (k : List ℕ). front_stage k w₁) places ∙ splitting.stage

      divide_tree : tree_of how m may x ≡ fewest m (tree_of how m) (tried_if m (how.weak && may_left may x) (front_stage l w₁)) (split_condition how.splits l) (front_stage l w₁)
      divide_tree =
          tree_is splitting.wide split splitting.is
          ∙ ap (λ (z : Stage). fewest m (tree_of how m) (tried_if m (how.weak && may_left may x) z) (split_condition how.splits z.ks) z) (sym same)

      -- one that has lost a condition has half of its cells at most, so there is room for a weak join again
      weak-room : may_left may x ≡ true → 32 * o.cells ≤ length w₁
      weak-room h = go may s.more h
        where
          go : (q : Bool) → (q ≡ true → 32 * cells ks ≤ length w) → may_left q x ≡ true → 32 * o.cells ≤ length w₁
          go true g h = let a = g refl in let b = less in let d = p.own in let f = p.does.len in omega arith
          go false g h =
              let a = s.work in
              let b = left-half x ready.pos (ltb→lt (width y.ks) (width ks) (subst T (sym h) tt)) in
              let d = p.own in
              let e = ap cells places in
              let f = p.does.len in
              omega arith

      pub divides : {q : Bool} → q ≡ (how.weak && may_left may x) → Divides how m (split_condition how.splits l) l o.cells q w₁ r
      divides {q} g =
          record {
            whole =
                record {
                  left = left_here splitting.wide (front_stage l w₁) (sym same);
                  masks = subst (λ (k : List ℕ). Known m k w₁) (sym places) splitting.masks;
                };
            cut = split-present how.splits l (let e = ap width places in let h = splitting.wide in omega arith);
            more = λ h. weak-room (passed (may_left may x) (and_r how.weak (may_left may x) (subst T (sym h ∙ g) tt)));
            numbers =
                subst (λ (b : Bool). Numbered (fewest m (tree_of how m) (tried_if m b (front_stage l w₁)) (split_condition how.splits l) (front_stage l w₁)) r) (sym g)
                (subst (λ (t : Tree). Numbered t r) divide_tree s.numbers);
          }

      pub divide_done : {q : Bool} → q ≡ (how.weak && may_left may x) → {want : Bool} {w₂ net net' : List ℕ} {i : Extent}
          → Written l (fewest m (tree_of how m) (tried_if m q (front_stage l w₁)) (split_condition how.splits l) (front_stage l w₁)) 0 want w₁ net r i w₂ net'
          → Written l (tree_of how m may x) 0 want w₁ net r i w₂ net'
      divide_done g h =
          written-tree (ap (λ (b : Bool). fewest m (tree_of how m) (tried_if m b (front_stage l w₁)) (split_condition how.splits l) (front_stage l w₁)) g ∙ sym divide_tree) h

    module _ {by : Gate} {of : Sets} (e : o.choice ≡ Join by of) where
      joining-here : Joining how by m y of.s of.t w₁
      joining-here = subst (λ (q : Choice). Finds how m y q w₁) e p.does.finds

      -- the stage that is left, over the places as they are called
      as_left : stage_of l y.limits ≡ y
      as_left = ap (λ (k : List ℕ). stage_of k y.limits) places

      join_tree_lem : tree_of how m may x ≡ join_tree m (tree_of how m) true by of.s of.t (stage_of l y.limits)
      join_tree_lem =
          tree_is joining-here.wide (joining by of.s of.t) joining-here.is ∙ ap (join_tree m (tree_of how m) true by of.s of.t) (sym as_left)

      admits : Admits m y by of.s of.t
      admits = admitted how m y by of.s of.t joining-here.is

      without-first : Smaller y.ks of.t
      without-first = smaller y.ks of.t shrunk.pos admits.sets.some_t admits.sets.in_t

      left_as : Left m y o.cells w₁
      left_as = left_here joining-here.wide y refl

      joins-left : Joins how by m y of.s of.t true o.cells w₁ r
      joins-left =
          record {
            left = left_as;
            exists = admits.joins;
            first-room = smaller_behind of.t left_as without-first;
            first-fewer = λ h. without-first.fewer;
            second = smaller y.ks of.s shrunk.pos admits.sets.some_s admits.sets.in_s;
            tables = joining-here.tables;
            numbers = subst (λ (t : Tree). Numbered t r) (tree_is joining-here.wide (joining by of.s of.t) joining-here.is) s.numbers;
          }

      pub joins : Joins how by m (stage_of l y.limits) of.s of.t true o.cells w₁ r
      joins = subst (λ (z : Stage). Joins how by m z of.s of.t true o.cells w₁ r) (sym as_left) joins-left

      pub join_done : {want : Bool} {w₂ net net' : List ℕ} {i : Extent} → Joined how by m l of.s of.t true o.cells want w₁ net r i w₂ net'
          → Written l (tree_of how m may x) 0 want w₁ net r i w₂ net'
      join_done h = written-tree (sym join_tree_lem) (h.whole y.limits joins)
