-- Extremes, and the lines of a table: the cells that differ in one condition only, `step` apart, `card` of them.
use Rattle.std.specs.Prelude.{ℕ, ◌+◌, ◌*◌, ◌/◌, ◌%◌, ◌≤◌, ◌<◌, min, max, ◌≡◌, Bool, true, false, List, length}
use Rattle.rules.specs.Bytes.{at, tabulate}
use Rattle.rules.specs.Cell.{cells, step, over_to}

-- the greater of two, or the lesser
abbrev pub best : Bool → ℕ → ℕ → ℕ
best true = max
best false = min

-- the order that an extreme belongs to
abbrev pub order : Bool → ℕ → ℕ → Type 0
order true a b = a ≤ b
order false a b = b ≤ a

-- the extreme of the bytes at a, a + step, .., card of them
unfoldable pub line_best : Bool → List ℕ → ℕ → ℕ → ℕ → ℕ
line_best greatest w a step card = over_to (best greatest) (λ v. true) (λ v. at w (a + step * v)) (at w a) card

-- a line that starts at a lies within the buffer
pub record Line (w : List ℕ) (a step card : ℕ) : Type 0 where
  pub steps : 0 < step
  pub some : 0 < card
  pub inside : (v : ℕ) → v < card → a + step * v < length w

-- w' is w with f 0, f 1, .. along a line, n of them: every byte of w'
pub record Spread (w : List ℕ) (a step : ℕ) (f : ℕ → ℕ) (n : ℕ) (w' : List ℕ) : Type 0 where
  pub len : length w' ≡ length w
  pub on : (v : ℕ) → v < n → at w' (a + step * v) ≡ f v
  pub off : (j : ℕ) → ((v : ℕ) → v < n → j ≡ a + step * v → ⊥) → at w' j ≡ at w j

-- a block of step × card bytes at a: its lines start at a, a + 1, .., step of them
pub record Block (w : List ℕ) (a step card : ℕ) : Type 0 where
  pub some : 0 < card
  pub inside : a + step * card ≤ length w

-- a table of count blocks at a
pub record Blocks (w : List ℕ) (a count step card : ℕ) : Type 0 where
  pub steps : 0 < step
  pub some : 0 < card
  pub more : 0 < count
  pub inside : a + step * card * count ≤ length w

-- the table of the extremes along the lines of f, a table of count blocks
unfoldable pub along_lines : Bool → List ℕ → ℕ → ℕ → ℕ → List ℕ
along_lines greatest f step card count =
    tabulate (step * card * count) (λ c. over_to (best greatest) (λ v. true) (λ v. at f (c % step + c / step / card * card * step + v * step)) (at f c) card)

-- the extremes along the lines of a table of count blocks at a, one for each line
abbrev pub line_extremes : Bool → List ℕ → ℕ → ℕ → ℕ → ℕ → List ℕ
line_extremes greatest w a step card count = tabulate (step * count) (λ q. line_best greatest w (a + (q % step + step * card * (q / step))) step card)

-- condition i of tables over the places ks, as a caller has counted: their cells, and the condition's step
pub record Counts (ks : List ℕ) (i n stp : ℕ) : Type 0 where
  pub place : i < 8
  pub count : n ≡ cells ks
  pub step_is : stp ≡ step ks i
