-- The function that a stage's network computes, from those of the stages that it starts: what the work buffer holds.
use Prim.Native.Nat.{ℕ, zero, suc, ◌≤◌, ◌<◌}
use mathlib.Core.Path.{◌≡◌, refl, sym, ◌∙◌, ap, ap₂, subst}
use mathlib.Core.Bool.{Bool, true}
use mathlib.Core.List.{List}
use native.Mathlib.Omega.{arith}
use lib.Dec.{T}
use Rattle.laws.proofs.TableLaws.{tabulate-same}
use Rattle.laws.proofs.CellLaws.{Sub, sub-without, value_lt, without_pos}
use Rattle.laws.proofs.LowestLaws.{no_width}
use Rattle.laws.proofs.SplitLaws.{cofactor_lt, cofactor-value, cofactor-rest}
use Rattle.laws.proofs.TreeLaws.{Made, computed-at, computed-remap}
use Rattle.laws.proofs.StageLaws.{Ready, left_shrunk, left-ready, left_ok, network_ok, first-ready, second_of, cofactor-ready, split_at, literal-grade}
use Rattle.laws.proofs.FuelLaws.{network-left}
use Rattle.rules.specs.Bytes.{at, tabulate}
use Rattle.rules.specs.Cell.{Positive, cells, card, present, width, value, remap, singleton, without, moved}
use Rattle.rules.specs.Network.{combine}
use Rattle.rules.specs.Tree.{Tree, tree_grade}
use Rattle.rules.specs.Join.{join_exists}
use Rattle.rules.specs.Stage.{Stage, left, first_stage, second_stage, cofactor_cell, cofactor_stage, computed, join_tree, split_tree, left_tree, may_left, rank, tree_of}
use Rattle.rules.specs.declared.Gate.{Gate}
use Rattle.rules.specs.declared.Settings.{Settings}

-- over fewer conditions, and moved
pub computed-moved : (a b : List ℕ) (m : ℕ) (n : Tree) → Positive a → Positive b → Sub b a → Made b m n → computed a n ≡ moved b a (computed b n)
computed-moved a b m n p q s h = tabulate-same (cells a) _ _ (λ c hc. sym (computed-remap a b m n c p q s h))

module _ (how : Settings) (m : ℕ) (may : Bool) (x : Stage) (r : Ready m x) where
  abbrev y : Stage
  y = left x

  ry : Ready m y
  ry = left-ready m x r

  left_made : Made y.ks m (tree_of how m may x)
  left_made =
      subst (Made y.ks m) (sym (network-left how m may x r.pos))
      (left_ok how m (tree_of how m) (rank (may_left may x) y) (λ b z h q. network_ok how m b z q) (may_left may x) y (omega arith) ry (width y.ks) refl).made

  -- 1. the conditions dropped
  pub spread : computed x.ks (tree_of how m may x) ≡ moved y.ks x.ks (computed y.ks (tree_of how m may x))
  spread = let d = left_shrunk x r.pos in computed-moved x.ks y.ks m (tree_of how m may x) r.pos d.pos d.sub left_made

  -- 2. none or one left: the lower grades, or the upper
  leaf-grade : (n : ℕ) → width y.ks ≡ n → n ≤ 1 → (c : ℕ) → c < cells y.ks → tree_grade (left_tree how m (tree_of how m) (may_left may x) n y) (value y.ks c) ≡ at y.limits.lower c
  leaf-grade zero e h c hc = ap (at y.limits.lower) (omega (arith, no_width y.ks ry.pos e))
  leaf-grade (suc zero) e h c hc = literal-grade y.ks y.limits.lower c ry.pos e hc
  leaf-grade (suc (suc n)) e h c hc = absurd (omega arith)

  pub leaf : width y.ks ≤ 1 → computed y.ks (tree_of how m may x) ≡ tabulate (cells y.ks) (at y.limits.lower)
  leaf h =
      ap (computed y.ks) (network-left how m may x r.pos)
      ∙ tabulate-same (cells y.ks) _ _ (λ c hc. leaf-grade (width y.ks) refl h c hc)

-- of a stage with its conditions left
module _ (how : Settings) (m : ℕ) (y : Stage) (r : Ready m y) where
  -- 5. the gate of the two blocks' functions, through the cell map; the first block of a weak join may take none
  module _ (may : Bool) (op : Gate) (s t : ℕ) (e : T (join_exists op y.ks m s t y.limits)) where
    abbrev A : Stage
    A = first_stage m op s t y

    -- g, at the cells of the conditions left
    pub first-moved : computed y.ks (tree_of how m may A) ≡ moved A.ks y.ks (computed A.ks (tree_of how m may A))
    first-moved =
        computed-moved y.ks A.ks m (tree_of how m may A) r.pos (without_pos t y.ks r.pos) (sub-without t y.ks)
        (network_ok how m may A (first-ready m op s t y r e)).made

    abbrev B : Stage
    B = second_stage m op s t y (computed y.ks (tree_of how m may A))

    second-moved : computed y.ks (tree_of how m true B) ≡ moved B.ks y.ks (computed B.ks (tree_of how m true B))
    second-moved =
        computed-moved y.ks B.ks m (tree_of how m true B) r.pos (without_pos s y.ks r.pos) (sub-without s y.ks)
        (network_ok how m true B (second_of how m op s t y r e may)).made

    pub joined : computed y.ks (join_tree m (tree_of how m) may op s t y)
        ≡ tabulate (cells y.ks) (λ c. combine op (at (moved A.ks y.ks (computed A.ks (tree_of how m may A))) c) (at (moved B.ks y.ks (computed B.ks (tree_of how m true B))) c))
    joined =
        tabulate-same (cells y.ks) _ _
        (λ c hc.
        ap₂ (combine op)
        (sym (computed-at y.ks (tree_of how m may A) c hc) ∙ ap (λ (l : List ℕ). at l c) first-moved)
        (sym (computed-at y.ks (tree_of how m true B) c hc) ∙ ap (λ (l : List ℕ). at l c) second-moved))

  -- 6. a split on condition i: at the cells with value k, the function of the stage for k
  module _ (i : ℕ) (h : T (present y.ks i)) where
    abbrev b : List ℕ
    b = without (singleton i) y.ks

    abbrev whole : Tree
    whole = split_tree m (tree_of how m) i y

    split-cofactor : (c : ℕ) → c < cells y.ks → at (computed y.ks whole) c ≡ at (computed b (tree_of how m true (cofactor_stage i (value y.ks c i) y))) (remap y.ks b c)
    split-cofactor c hc =
        let k = value y.ks c i in
        let hk : k < card y.ks i = value_lt y.ks c i r.pos in
        computed-at y.ks whole c hc
        ∙ split_at how m (tree_of how m) (rank true y) (λ b z h q. network_ok how m b z q) true y (omega arith) r i h (value y.ks c) hk
        ∙ sym (computed-remap y.ks b m (tree_of how m true (cofactor_stage i k y)) c r.pos (without_pos (singleton i) y.ks r.pos) (sub-without (singleton i) y.ks)
        (network_ok how m true (cofactor_stage i k y) (cofactor-ready y r.pos i k m r hk)).made)

    pub splitted : (k c : ℕ) → k < card y.ks i → c < cells b → at (computed y.ks whole) (cofactor_cell y.ks i k c) ≡ at (computed b (tree_of how m true (cofactor_stage i k y))) c
    splitted k c hk hc =
        split-cofactor (cofactor_cell y.ks i k c) (cofactor_lt y.ks i r.pos k c hk)
        ∙ ap₂ (λ (j d : ℕ). at (computed b (tree_of how m true (cofactor_stage i j y))) d) (cofactor-value y.ks i r.pos k c hk) (cofactor-rest y.ks i r.pos k c hk hc)
