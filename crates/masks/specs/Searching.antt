-- The pair that the search finds.
use Rattle.std.specs.Prelude.{ℕ, ◌<◌, ◌≡◌, Bool, List, Option, Some, None}
use Rattle.rules.specs.Bytes.{numbers_from}
use Rattle.rules.specs.Cell.{present, singleton}
use Rattle.rules.specs.Limits.{Limits}
use Rattle.rules.specs.Join.{join_exists}
use Rattle.rules.specs.Stage.{Grouping, none, sets, first_pair}
use Rattle.rules.specs.declared.Gate.{Gate}
use Rattle.masks.specs.Masks.{Masked}

-- a pair as two sets of one condition each
abbrev pub pair_sets : Option (ℕ × ℕ) → Grouping
pair_sets None = none
pair_sets (Some (i, j)) = sets (singleton i) (singleton j)

abbrev pub Rising : Option (ℕ × ℕ) → Type 0
Rising None = Unit {0}
Rising (Some (i, j)) = (i < j) × (j < 8)

-- the first pair of the places' conditions that joins, joins saying which sets do
pub record FirstPair (ks : List ℕ) (joins : ℕ → ℕ → Bool) (r : Option (ℕ × ℕ)) : Type 0 where
  pub is : pair_sets r ≡ first_pair (present ks) joins (numbers_from 0 8)
  pub rising : Rising r

-- by whatever gate and under whatever limits the masks t are of
pub record Searched (ks t : List ℕ) (r : Option (ℕ × ℕ)) : Type 0 where
  pub first : (op : Gate) (m : ℕ) (l : Limits) → Masked op ks m l t → FirstPair ks (λ a b. join_exists op ks m a b l) r
