-- 01, Stages, step 6: the tables of the cells with one value, in parts of c bytes; n cells have that value.
use Rattle.std.specs.Prelude.{ℕ, ◌+◌, ◌*◌, ◌/◌, ◌≤◌, ◌<◌, ◌≡◌, List, length}
use Rattle.rules.specs.Bytes.{at, tabulate}
use Rattle.tables.specs.Part.{part}
use Rattle.moves.specs.Row.{in_row, Rows}
use Rattle.masks.specs.Masks.{Beside}

-- the cells where the condition of the given step and number of values is k: n of them
abbrev pub value_cells : List ℕ → ℕ → ℕ → ℕ → ℕ → List ℕ
value_cells f n stp values k = tabulate n (λ j. at f (in_row stp values k j))

-- room for the first tables of a stage, of the cells where condition i is k
pub record LayRoom (w : List ℕ) (i n stp values c k tables : ℕ) : Type 0 where
  pub there : i < 8
  pub below : k < values
  pub rows : Rows stp n
  pub few : tables ≤ 4
  pub own : values * n ≡ c
  pub work : 8 * c + 4 * n ≤ length w

-- they stand at 8 × c: two of limits, and then of masks, which may have more or less of condition i
pub record RowsLaid (w : List ℕ) (i n stp values c k tables : ℕ) (w' : List ℕ) : Type 0 where
  pub limits : (q : ℕ) → q < tables → q < 2 → part w' (8 * c + q * n) n ≡ value_cells (part w (q * c) (values * n)) n stp values k
  pub masks : (q : ℕ) → q < tables → Beside i n (value_cells (part w (q * c) (values * n)) n stp values k) (part w' (8 * c + q * n) n)
  pub before : (j : ℕ) → j < 8 * c → at w' j ≡ at w j
  pub len : length w' ≡ length w

-- some rows of the table at 8 × c, and the table in part 4
pub record GiveRoom (w : List ℕ) (stp values c k first last : ℕ) : Type 0 where
  pub below : k < values
  pub rows : Rows stp (c / values)
  pub own : values * (c / values) ≡ c
  pub work : 8 * c + c / values ≤ length w
  pub some : first < last
  pub within : last ≤ c / values / stp
