-- Tests of joins on tables that are parts of one buffer.
use Rattle.std.specs.Prelude.{ℕ, ◌+◌, ◌≤◌, max, Bool, List, leb, length}
use Rattle.rules.specs.Bytes.{at, all}
use Rattle.rules.specs.Cell.{cells, singleton, least_over}
use Rattle.rules.specs.Join.{max_exists}
use Rattle.tables.specs.Part.{part, Shaped}

-- two tables over the places ks
pub record Tables (w ks : List ℕ) (a b : ℕ) : Type 0 where
  pub shaped : Shaped ks
  pub first : a + cells ks ≤ length w
  pub second : b + cells ks ≤ length w

-- whether the max join at two sets exists, under the lower grades l and the upper grades u
unfoldable pub joins : List ℕ → List ℕ → List ℕ → ℕ → ℕ → Bool
joins ks l u s t = max_exists ks s t l u

-- under the limits that stand at low and at high
abbrev pub joins_at : List ℕ → List ℕ → ℕ → ℕ → ℕ → ℕ → Bool
joins_at ks w low high = joins ks (part w low (cells ks)) (part w high (cells ks))

-- no lower grade is above both the table that is kept and the least over condition i of the table that grows
unfoldable pub admits : List ℕ → ℕ → List ℕ → List ℕ → List ℕ → Bool
admits ks i l keep grow = let least = least_over ks (singleton i) grow in all (cells ks) (λ c. leb (at l c) (max (at keep c) (at least c)))
