-- The lines of a table, cell by cell: where the line through a cell starts, and how the cell stands on it.
use Rattle.std.specs.Prelude.{ℕ, ◌+◌, ◌*◌, ◌/◌, ◌%◌, ◌≤◌, ◌<◌, ◌≡◌, false, List}
use Rattle.tables.specs.Line.{line_best, Line}
use Rattle.lines.specs.declared.Along.{Along}

-- where the line through cell c of the table at a starts
abbrev pub line_start : ℕ → ℕ → ℕ → ℕ → ℕ
line_start a c step card = a + (c % step + c / (step * card) * (step * card))

-- cell c on its line, as value `value` of block `block`: the line's first cell lies `back` before it, and the condition's next value begins
-- `ahead` cells on
pub record Stands (c : ℕ) (on : Along) : Type 0 where
  pub value : ℕ
  pub block : ℕ
  pub is : c + on.ahead ≡ on.step * value + on.step + on.step * on.card * block
  pub back_is : on.back ≡ on.step * value
  pub within : value < on.card
  pub some : 0 < on.ahead
  pub most : on.ahead ≤ on.step

-- the line through cell c of the table at a lies within the buffer
pub record LineOn (w : List ℕ) (a c : ℕ) (on : Along) : Type 0 where
  pub line : Line w (line_start a c on.step on.card) on.step on.card
  pub stands : Stands c on

-- its least grade
abbrev pub least_on : List ℕ → ℕ → ℕ → Along → ℕ
least_on w a c on = line_best false w (line_start a c on.step on.card) on.step on.card

-- the first cell of a table
abbrev pub first : ℕ → ℕ → Along
first step card = record { step = step; card = card; back = 0; ahead = step }

-- whichever cell stands so, the next stands as r says, along the same condition
pub record Next (on r : Along) : Type 0 where
  pub step_is : r.step ≡ on.step
  pub card-is : r.card ≡ on.card
  pub stands : (c : ℕ) → Stands c on → Stands (c + 1) r
