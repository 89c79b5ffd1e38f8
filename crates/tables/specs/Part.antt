-- Tables that are parts of one buffer: a table of n cells at offset a is the n bytes from a on.
use Rattle.std.specs.Prelude.{ℕ, ◌+◌, ◌≤◌, ◌<◌, ◌≡◌, List, ◌⊎◌, length, take, drop}
use Rattle.rules.specs.Bytes.{at}
use Rattle.rules.specs.Cell.{Positive, cells}
use Rattle.rules.specs.Stage.{Stage}

-- the n bytes from a on
unfoldable pub part : List ℕ → ℕ → ℕ → List ℕ
part w a n = take n (drop a w)

-- w' is w with the first n grades of the table t at a: every byte of w'
pub record Laid (w : List ℕ) (a : ℕ) (t : List ℕ) (n : ℕ) (w' : List ℕ) : Type 0 where
  pub len : length w' ≡ length w
  pub here : (k : ℕ) → k < n → at w' (a + k) ≡ at t k
  pub before : (j : ℕ) → j < a → at w' j ≡ at w j
  pub after : (j : ℕ) → a + n ≤ j → at w' j ≡ at w j

-- a part of m bytes to read and one of n to write, with no byte in common
pub record Apart (w : List ℕ) (from m to n : ℕ) : Type 0 where
  pub src : from + m ≤ length w
  pub dst : to + n ≤ length w
  pub apart : (from + m ≤ to) ⊎ (to + n ≤ from)

-- the same for tables of as many cells
abbrev pub Two : List ℕ → ℕ → ℕ → ℕ → Type 0
Two w from to n = Apart w from n to n

-- places whose tables fit a part: every cardinality at least 1, and at most 1,024 cells
pub record Shaped (ks : List ℕ) : Type 0 where
  pub some : Positive ks
  pub few : cells ks ≤ 1024

-- the stage whose limits stand at low and at high
abbrev pub stage_at : List ℕ → List ℕ → ℕ → ℕ → Stage
stage_at ks w low high = record { ks = ks; limits = record { lower = part w low (cells ks); upper = part w high (cells ks) } }
