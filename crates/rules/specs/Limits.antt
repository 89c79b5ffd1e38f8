-- 01, Tables and cells: a table's limits.
use Rattle.std.specs.Prelude.{ℕ, Bool, ◌&&◌, List, leb, ltb}
use Rattle.rules.specs.Bytes.{at, all}
use Rattle.rules.specs.Cell.{cells}

-- the lower and the upper grade of each cell. In the field: an interval of functions, those with a grade between the two at every cell.
-- A cell with the limits 0 and m − 1 is a don't-care
pub record Limits : Type 0 where
  pub lower : List ℕ
  pub upper : List ℕ

-- the limits that two buffers hold
abbrev pub limits_of : List ℕ → List ℕ → Limits
limits_of lower upper = record { lower = lower; upper = upper }

-- the same done to both
abbrev pub each : (List ℕ → List ℕ) → Limits → Limits
each f l = record { lower = f l.lower; upper = f l.upper }

-- what row 5 of "Places where a call stops" lets pass
abbrev pub limits_sound : List ℕ → ℕ → Limits → Bool
limits_sound ks m l = all (cells ks) (λ c. leb (at l.lower c) (at l.upper c) && ltb (at l.upper c) m)
