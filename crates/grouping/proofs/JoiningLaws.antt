-- The test of an addition at every cell, and the join that it decides.
use Prim.Native.Nat.{ℕ, ◌+◌, ◌<◌, max}
use mathlib.Core.Path.{◌≡◌, sym, ◌∙◌, ap, ap₂}
use mathlib.Core.Bool.{Bool}
use mathlib.Core.List.{List}
use native.Mathlib.Nat.{max_comm}
use lib.Dec.{leb}
use Rattle.rules.specs.Bytes.{at, all}
use Rattle.rules.specs.Cell.{Positive, cells, singleton, insert, least_over}
use Rattle.laws.proofs.LineLaws.{over-insert}
use Rattle.laws.proofs.OverLaws.{min-bound}
use Rattle.tables.specs.Part.{part, Shaped}
use Rattle.lines.specs.Along.{least_on}
use Rattle.lines.specs.declared.Along.{Along}
use Rattle.tables.proofs.PartLaws.{part_at}
use Rattle.laws.proofs.TableLaws.{all_same}
use Rattle.grouping.specs.Joining.{joins, admits}
use Rattle.lines.proofs.AlongLaws.{Walks, walks_least}

-- the test of an addition of i at a cell, under the rules' definitions
abbrev pub add_cell : List ℕ → List ℕ → ℕ → ℕ → ℕ → ℕ → ℕ → Bool
add_cell w ks i low keep grow c = leb (at (part w low (cells ks)) c) (max (at (part w keep (cells ks)) c) (at (least_over ks (singleton i) (part w grow (cells ks))) c))

module _ (w ks : List ℕ) (i low keep grow : ℕ) where
  -- what a walk along the condition finds at a cell
  pub add_at : {c : ℕ} {on : Along} → Shaped ks → Walks ks i c on → c < cells ks
      → leb (at w (low + c)) (max (at w (keep + c)) (least_on w grow c on)) ≡ add_cell w ks i low keep grow c
  add_at {c} shaped x h = ap₂ leb (sym (part_at w low (cells ks) c h)) (ap₂ max (sym (part_at w keep (cells ks) c h)) (walks_least shaped x w grow h))

-- the test of an addition decides whether the grown set joins
pub admits-joins : (ks : List ℕ) (i : ℕ) (l u keep grow : List ℕ) (s t : ℕ) → Positive ks → keep ≡ least_over ks t u → grow ≡ least_over ks s u → admits ks i l keep grow ≡ joins ks l u (insert s i) t
unfolding admits joins
admits-joins ks i l u keep grow s t p ek eg =
    ap₂ (admits ks i l) ek eg ∙ inserted
  where
    inserted : admits ks i l (least_over ks t u) (least_over ks s u) ≡ joins ks l u (insert s i) t
    inserted = ap (λ (g : List ℕ). all (cells ks) (λ c. leb (at l c) (max (at (least_over ks t u) c) (at g c)))) (over-insert min-bound ks u s i p)

-- the sets of a join in either order
pub joins-turn : (ks l u : List ℕ) (s t : ℕ) → joins ks l u s t ≡ joins ks l u t s
unfolding joins
joins-turn ks l u s t = all_same (cells ks) _ _ (λ c h. ap (leb (at l c)) (max_comm (at (least_over ks t u) c) (at (least_over ks s u) c)))
