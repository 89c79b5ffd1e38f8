-- Blocks of a condition's lines, a row for each value, and tables made of them.
use Rattle.std.specs.Prelude.{ℕ, suc, ◌+◌, ◌*◌, ◌≤◌, ◌<◌, ◌≡◌, Bool, List, length}
use Rattle.rules.specs.Bytes.{at}
use Rattle.rules.specs.Cell.{Positive, step}
use Rattle.tables.specs.Line.{line_best}

-- w' is w with the extreme of each of the first s lines of the block of grades g at from, all along the same line at to
pub record BlockSet (greatest : Bool) (g : List ℕ) (from : ℕ) (w : List ℕ) (to step card s : ℕ) (w' : List ℕ) : Type 0 where
  pub len : length w' ≡ length w
  pub done : (o v : ℕ) → o < s → v < card → at w' (to + o + step * v) ≡ line_best greatest g (from + o) step card
  pub left : (o v : ℕ) → s ≤ o → o < step → v < card → at w' (to + o + step * v) ≡ at w (to + o + step * v)
  pub before : (j : ℕ) → j < to → at w' j ≡ at w j
  pub after : (j : ℕ) → to + step * card ≤ j → at w' j ≡ at w j

-- the row at to has the first grades at from
pub record Started (g : List ℕ) (from : ℕ) (w : List ℕ) (to step : ℕ) : Type 0 where
  pub row : (o : ℕ) → o < step → at w (to + o) ≡ at g (from + o)

-- w' is w with the first row of a block in its first n rows
pub record Repeated (w : List ℕ) (a step card n : ℕ) (w' : List ℕ) : Type 0 where
  pub len : length w' ≡ length w
  pub rows : (o v : ℕ) → o < step → v < n → at w' (a + o + step * v) ≡ at w (a + o)
  pub before : (j : ℕ) → j < a → at w' j ≡ at w j
  pub after : (j : ℕ) → a + step * card ≤ j → at w' j ≡ at w j

-- n cells in tables of `size` cells, one behind the other
pub record Several (size n : ℕ) : Type 0 where
  pub count : ℕ
  pub more : 0 < count
  pub all : n ≡ size * count
  pub some : 0 < size
  pub few : n ≤ 1024

-- tables of the places up to i, n cells in all
pub record Tables (ks : List ℕ) (i size n : ℕ) : Type 0 where
  pub place : i < 8
  pub positive : Positive ks
  pub size_is : size ≡ step ks (suc i)
  pub several : Several size n
