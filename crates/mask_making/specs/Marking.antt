-- Masks on the way: the bit of one condition, taken from the masks of the cells that do not refuse it.
use Rattle.std.specs.Prelude.{ℕ, ◌+◌, ◌-◌, ◌*◌, ◌≤◌, ◌<◌, ◌≡◌, Bool, List, ◌⊎◌, ltb, length}
use Rattle.rules.specs.Bytes.{pick, at}
use Rattle.tables.specs.Part.{part}
use Rattle.masks.specs.Masks.{above_least, below_greatest}

-- a mask, from which a bit is taken unless the test passes
abbrev pub less : Bool → ℕ → ℕ → ℕ
less refuses bit mask = mask - pick refuses 0 bit

-- of the masks at `to`, that of cell x: b is taken from it unless the grade at `low` is above the one at `high`
abbrev pub marked : List ℕ → ℕ → ℕ → ℕ → ℕ → ℕ → ℕ
marked w low high to b x = less (ltb (at w (high + x)) (at w (low + x))) b (at w (to + x))

-- the byte at j is at least b
pub record Holds (w : List ℕ) (j b : ℕ) : Type 0 where
  pub place : j < length w
  pub least : b ≤ at w j

-- b is taken from it
pub record Taken (w : List ℕ) (j b : ℕ) (w' : List ℕ) : Type 0 where
  pub len : length w' ≡ length w
  pub here : at w' j ≡ at w j - b
  pub other : (k : ℕ) → (k ≡ j → ⊥) → at w' k ≡ at w k

-- each of n masks at a has the bit b
pub record AllHave (w : List ℕ) (a n b : ℕ) : Type 0 where
  pub mask : (x : ℕ) → x < n → Holds w (a + x) b

-- the masks of cell x have it, for max and for min
pub record HasBit (w : List ℕ) (n b x : ℕ) : Type 0 where
  pub first : Holds w (2 * n + x) b
  pub second : Holds w (3 * n + x) b

-- those of every cell from a on
pub record HaveBit (w : List ℕ) (n b a : ℕ) : Type 0 where
  pub cell : (x : ℕ) → a ≤ x → x < n → HasBit w n b x

-- the limits are as they were
pub record Kept (w : List ℕ) (n : ℕ) (w' : List ℕ) : Type 0 where
  pub len : length w' ≡ length w
  pub limits : (j : ℕ) → j < 2 * n → at w' j ≡ at w j

-- the masks of cell x are as they were
pub record Same (w : List ℕ) (n x : ℕ) (w' : List ℕ) : Type 0 where
  pub first : at w' (2 * n + x) ≡ at w (2 * n + x)
  pub second : at w' (3 * n + x) ≡ at w (3 * n + x)

-- b is taken from them, unless the cell refuses the condition: p for max, q for min
pub record CellMarked (w : List ℕ) (n b x : ℕ) (p q : Bool) (w' : List ℕ) : Type 0 where
  pub first : at w' (2 * n + x) ≡ less p b (at w (2 * n + x))
  pub second : at w' (3 * n + x) ≡ less q b (at w (3 * n + x))

-- the same where y is the only other cell of x's line: its own limits, which are in order, never make x refuse the condition
abbrev pub Beside : List ℕ → ℕ → ℕ → ℕ → ℕ → List ℕ → Type 0
Beside w n b x y w' = CellMarked w n b x (ltb (at w (n + y)) (at w x)) (ltb (at w (n + x)) (at w y)) w'

-- both cells of a line
pub record LineMarked (w : List ℕ) (n b x y : ℕ) (w' : List ℕ) : Type 0 where
  pub one : Beside w n b x y w'
  pub two : Beside w n b y x w'

-- and no other cell
pub record OnlyLine (w : List ℕ) (n b x y : ℕ) (w' : List ℕ) : Type 0 where
  pub kept : Kept w n w'
  pub done : LineMarked w n b x y w'
  pub left : (z : ℕ) → z < n → (z ≡ x → ⊥) → (z ≡ y → ⊥) → Same w n z w'

-- the first s lines of a block of two rows of `step` cells at a, and no other cell
pub record RowsMarked (w : List ℕ) (n b a step s : ℕ) (w' : List ℕ) : Type 0 where
  pub kept : Kept w n w'
  pub done : (o : ℕ) → o < s → LineMarked w n b (a + o) (a + step + o) w'
  pub left : (z : ℕ) → z < n → ((o : ℕ) → o < s → (z ≡ a + o) ⊎ (z ≡ a + step + o) → ⊥) → Same w n z w'

-- the first `count` such blocks, and no other cell
pub record BlocksMarked (w : List ℕ) (n b step count : ℕ) (w' : List ℕ) : Type 0 where
  pub kept : Kept w n w'
  pub done : (k o : ℕ) → k < count → o < step → LineMarked w n b (step * 2 * k + o) (step * 2 * k + step + o) w'
  pub left : (z : ℕ) → step * 2 * count ≤ z → z < n → Same w n z w'

-- condition i, whose bit is b, at every cell
pub record Marked (w ks : List ℕ) (i n b : ℕ) (w' : List ℕ) : Type 0 where
  pub kept : Kept w n w'
  pub cell : (x : ℕ) → x < n
      → CellMarked w n b x (above_least ks (part w 0 n) (part w n n) i x) (below_greatest ks (part w 0 n) (part w n n) i x) w'
