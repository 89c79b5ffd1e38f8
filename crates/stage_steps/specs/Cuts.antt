-- Request 8: the condition that a split takes.
use Rattle.std.specs.Prelude.{ℕ, ◌<◌, ◌≡◌, List}
use Rattle.rules.specs.Cell.{card, step}
use Rattle.stage_steps.specs.declared.cuts.Cut.{Cut}

-- condition i, with its values, and the cells of a row of one value
pub record IsCut (ks : List ℕ) (i : ℕ) (r : Cut) : Type 0 where
  pub number : r.number ≡ i
  pub values : r.values ≡ card ks i
  pub step_is : r.step ≡ step ks i

-- the one of two with more values, the first where they have as many
pub record Better (found : Cut) (i v s : ℕ) (r : Cut) : Type 0 where
  pub taken : found.values < v → r ≡ record { number = i; values = v; step = s }
  pub kept : (found.values < v → ⊥) → r ≡ found
