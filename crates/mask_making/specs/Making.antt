-- Masks made: in parts of n bytes the limits are 0 and 1, the masks for max 2, those for min 3; part 4 is spare.
use Rattle.std.specs.Prelude.{ℕ, ◌+◌, ◌*◌, ◌≤◌, ◌<◌, ◌≡◌, List, length}
use Rattle.rules.specs.Bytes.{at}
use Rattle.rules.specs.Cell.{cells}
use Rattle.tables.specs.Part.{part, Shaped}
use Rattle.masks.specs.Masks.{above_least, below_greatest, Bits}

-- five parts, for tables of n cells, and limits in order in the first two
pub record Space (w ks : List ℕ) (n : ℕ) : Type 0 where
  pub shaped : Shaped ks
  pub own : n ≡ cells ks
  pub room : 5 * n ≤ length w
  pub ordered : (c : ℕ) → c < n → at w c ≤ at w (n + c)

-- the masks of both gates, and the limits as they were
pub record Made (w ks : List ℕ) (n : ℕ) (w' : List ℕ) : Type 0 where
  pub len : length w' ≡ length w
  pub limits : (j : ℕ) → j < 2 * n → at w' j ≡ at w j
  pub first : Bits ks (above_least ks (part w 0 n) (part w n n)) (part w' (2 * n) n)
  pub second : Bits ks (below_greatest ks (part w 0 n) (part w n n)) (part w' (3 * n) n)
