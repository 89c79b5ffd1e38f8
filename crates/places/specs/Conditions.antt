-- Conditions of eight places.
use Rattle.std.specs.Prelude.{ℕ, ◌≡◌, List}
use Rattle.rules.specs.Cell.{card, lowest}
use Rattle.places.specs.declared.sets.Condition.{Condition}

-- the condition with the lowest number, and its values: past the last place, and one value, where there is none
pub record IsLowest (ks : List ℕ) (low : Condition) : Type 0 where
  pub number : low.number ≡ lowest ks
  pub values : low.values ≡ card ks (lowest ks)
