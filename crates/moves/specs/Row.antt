-- The cells where a condition has one value: in a table of blocks, each of as many rows as the condition has values, row k of each block.
use Rattle.std.specs.Prelude.{ℕ, ◌+◌, ◌*◌, ◌/◌, ◌%◌, ◌≤◌, ◌<◌, ◌≡◌, List, length}
use Rattle.rules.specs.Bytes.{at}
use Rattle.tables.specs.Part.{part}

-- the place of byte c of those rows, of stp bytes each; of the lowest condition, whose rows are single bytes, k + card × c
abbrev pub in_row : ℕ → ℕ → ℕ → ℕ → ℕ
in_row stp card k c = c % stp + stp * (k + card * (c / stp))

-- n bytes are whole rows
pub record Rows (stp n : ℕ) : Type 0 where
  pub some : 0 < stp
  pub count : ℕ
  pub all : n ≡ stp * count

-- w' is w with f 0, f 1, .. at the places p 0, p 1, .. behind a, n of them: every byte of w'
pub record Scattered (w : List ℕ) (a : ℕ) (p f : ℕ → ℕ) (n : ℕ) (w' : List ℕ) : Type 0 where
  pub len : length w' ≡ length w
  pub on : (v : ℕ) → v < n → at w' (a + p v) ≡ f v
  pub off : (j : ℕ) → ((v : ℕ) → v < n → j ≡ a + p v → ⊥) → at w' j ≡ at w j

-- the rows from first to last of the n bytes at `from` are laid back at their places in the table at `to`: every byte of w'
pub record Given (w : List ℕ) (from to n stp card k first last : ℕ) (w' : List ℕ) : Type 0 where
  pub len : length w' ≡ length w
  pub on : (v : ℕ) → stp * first ≤ v → v < stp * last → at w' (to + in_row stp card k v) ≡ at (part w from n) v
  pub off : (j : ℕ) → ((v : ℕ) → stp * first ≤ v → v < stp * last → j ≡ to + in_row stp card k v → ⊥) → at w' j ≡ at w j
