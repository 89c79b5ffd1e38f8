-- The test of a drop at every cell, and the rule that it decides.
use Prim.Native.Nat.{ℕ, ◌<◌}
use mathlib.Core.Path.{◌≡◌, sym, ◌∙◌, ap, ap₂}
use mathlib.Core.Bool.{Bool}
use mathlib.Core.List.{List}
use native.Mathlib.Nat.{zero-add}
use lib.Dec.{leb}
use Rattle.rules.specs.Bytes.{at, all}
use Rattle.rules.specs.Cell.{cells, singleton, least_over}
use Rattle.rules.specs.Stage.{fits, merged}
use Rattle.laws.proofs.StageLaws.{drop-is}
use Rattle.tables.specs.Part.{part, Shaped, stage_at}
use Rattle.lines.specs.Along.{least_on}
use Rattle.lines.specs.declared.Along.{Along}
use Rattle.tables.proofs.PartLaws.{part_at}
use Rattle.lines.proofs.AlongLaws.{Walks, walks_least}
use Rattle.stage_drops.specs.Working.{front_stage}

-- the test at every cell, under the rules' definitions
abbrev pub drop_cell : List ℕ → List ℕ → ℕ → ℕ → ℕ → Bool
drop_cell w ks i high c = leb (at (part w 0 (cells ks)) c) (at (least_over ks (singleton i) (part w high (cells ks))) c)

module _ (w ks : List ℕ) (i high : ℕ) where
  -- what a walk along the condition finds at a cell
  pub drop_at : {c : ℕ} {on : Along} → Shaped ks → Walks ks i c on → c < cells ks → leb (at w c) (least_on w high c on) ≡ drop_cell w ks i high c
  drop_at {c} shaped x h = ap₂ leb (ap (at w) (sym (zero-add c)) ∙ sym (part_at w 0 (cells ks) c h)) (walks_least shaped x w high h)

  -- at all of them: the upper limits start behind as many lower ones as there are cells
  pub drop_all : high ≡ cells ks → all high (drop_cell w ks i high) ≡ fits ks (merged i (front_stage ks w))
  drop_all e =
      ap (λ (n : ℕ). all n (drop_cell w ks i high)) e
      ∙ drop-is ks i (stage_at ks w 0 high).limits
      ∙ ap (λ (n : ℕ). fits ks (merged i (stage_at ks w 0 n))) e
