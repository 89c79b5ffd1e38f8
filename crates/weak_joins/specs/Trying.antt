-- Request 5: the weak join that a stage tries, from its masks.
use Rattle.std.specs.Prelude.{ℕ, ◌<◌, ◌≡◌, Bool, not, ◌&&◌, ◌||◌, List, Option, Some, None, eqb}
use Rattle.rules.specs.declared.Gate.{Gate}
use Rattle.rules.specs.Bytes.{at, all}
use Rattle.rules.specs.Cell.{present, has}
use Rattle.rules.specs.Stage as rules
use Rattle.join_tables.specs.Parts.{side}
use Rattle.weak_joins.specs.declared.WeakJoin.{WeakJoin}

abbrev pub weak_of : Option WeakJoin → rules.Weak
weak_of None = rules.nowhere
weak_of (Some tried) = rules.weakly tried.gate tried.condition

-- s has exactly what all of n masks have, but those of cells whose grade is `free`
pub record Common (n : ℕ) (masks grades : List ℕ) (free s : ℕ) : Type 0 where
  pub has-is : (j : ℕ) → j < 8 → has s j ≡ all n (λ c. eqb (at grades c) free || has (at masks c) j)

-- a condition that is there and not in a gate's set
abbrev pub lacking : List ℕ → ℕ → ℕ → Gate → ℕ → Bool
lacking ks a b op i = present ks i && not (has (side op a b) i)
