-- The record of a stage with no condition left or one, and a function moved to a stage's own places.
use Prim.Native.Nat.{ℕ, ◌+◌, ◌*◌, ◌≤◌, ◌<◌}
use mathlib.Core.Path.{◌≡◌, refl, sym, ◌∙◌, ap, ap₂, subst}
use mathlib.Core.Bool.{Bool}
use mathlib.Core.List.{List, [], ◌∷◌}
use mathlib.Core.Logic.{inl, inr}
use native.Mathlib.Omega.{arith}
use lib.ListN.{length}
use Rattle.rules.specs.Bytes.{at, tabulate}
use Rattle.rules.specs.Cell.{Positive, cells, width, remap, moved}
use Rattle.rules.specs.Network.{constant, literal}
use Rattle.rules.specs.Tree.{Tree, fixed, lookup}
use Rattle.rules.specs.declared.Settings.{Settings}
use Rattle.rules.specs.Stage.{Stage, left_tree}
use Rattle.laws.proofs.CellLaws.{cells_pos, cell-value}
use Rattle.laws.proofs.LowestLaws.{one-cells, none_left, some_left}
use Rattle.laws.proofs.TestLaws.{by_order}
use Rattle.laws.proofs.TableLaws.{length-tabulate_from, tabulate-same, tabulate_self}
use Rattle.places.specs.declared.sets.Condition.{Condition}
use Rattle.places.specs.Conditions.{IsLowest}
use Rattle.tables.specs.Part.{part, Shaped, Laid, Apart}
use Rattle.tables.proofs.PartLaws.{part_at, part_length, laid-part}
use Rattle.network_records.specs.Putting.{Put}
use Rattle.stage_blocks.specs.Blocks.{stage_of}
use Rattle.stage_steps.specs.declared.gates.Extent.{Extent}
use Rattle.stage_steps.specs.Ends.{LeafPut, SpreadRoom, SpreadLaid}
use Rattle.stage_steps.specs.Extents.{TreePut}
use Rattle.stage_steps.proofs.ExtentLaws.{tree-one}

-- a constant where there is no condition, a literal of the one that there is
module _ {low : Condition} {w net net' : List ℕ} {r : ℕ} where
  pub leaf-none : 8 ≤ low.number → Put net r (constant (at w 0) ∷ []) net' → LeafPut low w net r (record { next = r + 1; depth = 0 }) net'
  leaf-none h p = record { none = λ l. tree-one (fixed (at w 0)) refl refl p; one = λ l. absurd (omega arith) }

  pub leaf-one : low.number < 8 → Put net r (literal low.number (tabulate low.values (at w)) ∷ []) net' → LeafPut low w net r (record { next = r + 1; depth = 0 }) net'
  leaf-one h p = record { none = λ l. absurd (omega arith); one = λ l. tree-one (lookup low.number (tabulate low.values (at w))) refl refl p }

-- step 2's record is the tree of the stage with no condition left or one, whatever the upper grades, and whatever network other stages have
module _ (ks w : List ℕ) {low : Condition} (shaped : Shaped ks) (places : length ks ≡ 8) (narrow : width ks < 2) (is : IsLowest ks low) where
  abbrev stage : List ℕ → Stage
  stage u = stage_of ks (record { lower = part w 0 (cells ks); upper = u })

  abbrev leaf : (how : Settings) (m : ℕ) (sub : Bool → Stage → Tree) (may : Bool) (u : List ℕ) → Tree
  leaf how m sub may u = left_tree how m sub may (width ks) (stage u)

  none-tree : 8 ≤ low.number → (how : Settings) (m : ℕ) (sub : Bool → Stage → Tree) (may : Bool) (u : List ℕ) → fixed (at w 0) ≡ leaf how m sub may u
  none-tree h how m sub may u =
      let e = is.number in
      ap fixed (sym (part_at w 0 (cells ks) 0 (cells_pos ks shaped.some)))
      ∙ ap (λ (n : ℕ). left_tree how m sub may n (stage u)) (sym (none_left ks shaped.some (omega arith)))

  one-tree : low.number < 8 → (how : Settings) (m : ℕ) (sub : Bool → Stage → Tree) (may : Bool) (u : List ℕ) → lookup low.number (tabulate low.values (at w)) ≡ leaf how m sub may u
  one-tree h how m sub may u =
      let e = is.number in
      let one : width ks ≡ 1 = let some = some_left ks shaped.some (omega arith) in omega arith in
      let all : low.values ≡ cells ks = is.values ∙ one-cells ks shaped.some one in
      ap (lookup low.number)
      (tabulate-same low.values (at w) (at (part w 0 (cells ks))) (λ c l. sym (part_at w 0 (cells ks) c (omega arith) ∙ ap (at w) (omega arith))))
      ∙ ap₂ (λ (i n : ℕ). lookup i (tabulate n (at (part w 0 (cells ks))))) is.number is.values
      ∙ ap (λ (n : ℕ). left_tree how m sub may n (stage u)) (sym one)

  pub leaf-tree : {net : List ℕ} {r : ℕ} {of : Extent} {net' : List ℕ} → LeafPut low w net r of net' → (how : Settings) (m : ℕ) (sub : Bool → Stage → Tree) (may : Bool) (u : List ℕ) → TreePut (leaf how m sub may u) net r of net'
  leaf-tree {net} {r} {of} {net'} p how m sub may u =
      by_order 8 low.number
      (λ le. subst (λ (t : Tree). TreePut t net r of net') (none-tree le how m sub may u) (p.none le))
      (λ lt. subst (λ (t : Tree). TreePut t net r of net') (one-tree lt how m sub may u) (p.one lt))

-- a table moved to the places it has
pub moved_self : (ks f : List ℕ) → Positive ks → length f ≡ cells ks → moved ks ks f ≡ f
moved_self ks f p e =
    subst (λ (n : ℕ). tabulate n (λ c. at f (remap ks ks c)) ≡ f) e
    (tabulate_self (λ c. at f (remap ks ks c)) f (λ c l. ap (at f) (cell-value ks c p (omega arith))))

module _ {w ks b : List ℕ} {n c : ℕ} (p : SpreadRoom w ks b n c) where
  pub spread_none : n ≡ c → SpreadLaid ks b w w
  spread_none q =
      let e = p.same q in
      let a = p.all in
      record {
        here =
            subst (λ (a : List ℕ). part w 0 (cells ks) ≡ moved a ks (part w 0 (cells a))) (sym e)
            (sym (moved_self ks (part w 0 (cells ks)) p.shaped.some (part_length w 0 (cells ks) (let h = p.room in omega arith))));
        len = refl;
      }

  -- a copy behind the tables of ks, moved from there
  pub copy_room : Apart w 0 n (2 * c) n
  copy_room = let o = p.less in let h = p.room in record { src = omega arith; dst = omega arith; apart = inl (omega arith) }

  module _ {v : List ℕ} (l : Laid w (2 * c) (part w 0 n) n v) where
    pub moved-room : Apart v (2 * c) (cells b) 0 (cells ks)
    moved-room =
        let o = p.less in let h = p.room in let q = l.len in let e = p.left in let a = p.all in
        record { src = omega arith; dst = omega arith; apart = inr (omega arith) }

    pub spread_some : {w' : List ℕ} → Laid v 0 (moved b ks (part v (2 * c) (cells b))) (cells ks) w' → SpreadLaid ks b w w'
    spread_some {w'} m =
        let o = p.less in
        let h = p.room in
        let q = l.len in
        let a = p.all in
        let copied : part v (2 * c) n ≡ part w 0 n = laid-part l (omega arith) (part_length w 0 n (omega arith)) in
        record {
          here =
              laid-part m (omega arith) (length-tabulate_from _ 0 (cells ks))
              ∙ ap (moved b ks) (subst (λ (x : ℕ). part v (2 * c) x ≡ part w 0 x) p.left copied);
          len = m.len ∙ l.len;
        }
