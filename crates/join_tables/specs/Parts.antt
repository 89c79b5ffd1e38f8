-- What stands in the parts of a join's work buffer, each of n bytes.
use Rattle.std.specs.Prelude.{ℕ, ◌+◌, ◌-◌, ◌*◌, ◌≤◌, ◌<◌, ◌≡◌, Bool, List, length}
use Rattle.rules.specs.declared.Gate.{Gate}
use Rattle.rules.specs.declared.Gate.TheVariants.{Min, Max}
use Rattle.rules.specs.Bytes.{at, tabulate}
use Rattle.rules.specs.Cell.{cells}
use Rattle.rules.specs.Limits.{Limits}
use Rattle.rules.specs.Join.{u_a, u_b, exchange_for, join_exists, first_limits, second_limits, blind_test, block_sound}
use Rattle.tables.specs.Part.{Apart, Shaped}

-- the first choice for max, the second for min
abbrev pub side : Gate → ℕ → ℕ → ℕ
side Max a b = a
side Min a b = b

-- a table of n cells as the max join wants it
abbrev pub turned : Gate → ℕ → ℕ → List ℕ → List ℕ
turned Max n m t = t
turned Min n m t = tabulate n (λ c. m - 1 - at t c)

-- n grades from a on
pub record Below (w : List ℕ) (a n m : ℕ) : Type 0 where
  pub grade : (c : ℕ) → c < n → at w (a + c) ≤ m - 1

-- the table t stands at a
pub record Holds (w : List ℕ) (a : ℕ) (t : List ℕ) (n : ℕ) : Type 0 where
  pub here : (c : ℕ) → c < n → at w (a + c) ≡ at t c

-- limits stand at a, the upper ones behind the lower ones
pub record Placed (w : List ℕ) (a : ℕ) (l : Limits) (n : ℕ) : Type 0 where
  pub lows : Holds w a l.lower n
  pub highs : Holds w (a + n) l.upper n

-- w' is w outside the bytes from lo up to hi
pub record Within (w : List ℕ) (lo hi : ℕ) (w' : List ℕ) : Type 0 where
  pub len : length w' ≡ length w
  pub before : (j : ℕ) → j < lo → at w' j ≡ at w j
  pub after : (j : ℕ) → hi ≤ j → at w' j ≡ at w j

-- limits to exchange, and room for them
pub record Exchanging (w : List ℕ) (m from to n : ℕ) : Type 0 where
  pub some : 1 ≤ m
  pub parts : Apart w from (2 * n) to (2 * n)
  pub grades : Below w from (2 * n) m

-- whatever limits stood there, over whatever places: they are exchanged
pub record Exchanged (gate : Gate) (w : List ℕ) (m from to n : ℕ) (w' : List ℕ) : Type 0 where
  pub limits : (ks : List ℕ) (l : Limits) → n ≡ cells ks → Placed w from l n → Placed w' to (exchange_for gate ks m l) n
  pub kept : Within w to (to + 2 * n) w'

-- a work buffer for joins over the places ks
pub record Work (w : List ℕ) (ks : List ℕ) (n : ℕ) : Type 0 where
  pub shaped : Shaped ks
  pub count : n ≡ cells ks
  pub room : 6 * n ≤ length w

-- limits that are lent: n grades each
pub record Lent (lower upper : List ℕ) (m n : ℕ) : Type 0 where
  pub some : 1 ≤ m
  pub low : n ≤ length lower
  pub high : n ≤ length upper
  pub lows : (c : ℕ) → c < n → at lower c ≤ m - 1
  pub highs : (c : ℕ) → c < n → at upper c ≤ m - 1

-- the join by a gate under the limits l: what its two blocks are made from
module _ (gate : Gate) (ks : List ℕ) (m s t : ℕ) (l : Limits) (n : ℕ) where
  pub record Begun (w : List ℕ) : Type 0 where
    pub lows : Holds w 0 (exchange_for gate ks m l).lower n
    pub seconds : Holds w (3 * n) (u_b ks s t (exchange_for gate ks m l).lower (exchange_for gate ks m l).upper) n

  pub record Opened (w : List ℕ) : Type 0 where
    pub begun : Begun w
    pub firsts : Holds w (2 * n) (u_a ks s t (exchange_for gate ks m l).lower (exchange_for gate ks m l).upper) n

-- whatever join is open: the answer is whether it exists
pub record Existing (n : ℕ) (w : List ℕ) (r : Bool) : Type 0 where
  pub answer : (gate : Gate) (ks : List ℕ) (m s t : ℕ) (l : Limits) → n ≡ cells ks → Opened gate ks m s t l n w → r ≡ join_exists gate ks m s t l

-- whatever join was opened: the limits of its first block
pub record First (gate : Gate) (ks : List ℕ) (m t n : ℕ) (w w' : List ℕ) : Type 0 where
  pub limits : (s : ℕ) (l : Limits) → Opened gate ks m s t l n w → Placed w' (4 * n) (first_limits gate ks m s t l) n
  pub begun : (s : ℕ) (l : Limits) → Begun gate ks m s t l n w → Begun gate ks m s t l n w'
  pub kept : Within w n (6 * n) w'

-- whatever join was begun, and whatever first block stood in part 2: the limits of the second
pub record Second (gate : Gate) (ks : List ℕ) (m s n : ℕ) (w w' : List ℕ) : Type 0 where
  pub limits : (t : ℕ) (l : Limits) (g : List ℕ) → Begun gate ks m s t l n w → Holds w (2 * n) g n → Placed w' (4 * n) (second_limits gate ks m s t l g) n
  pub kept : Within w n (6 * n) w'

-- the answer is whether the table g is blind to the set
pub record Blinded (ks : List ℕ) (set to n : ℕ) (g w : List ℕ) (r : Bool) (w' : List ℕ) : Type 0 where
  pub answer : r ≡ blind_test ks set g
  pub kept : Within w to (to + n) w'

-- whatever limits stood in parts 4 and 5: the answer is row 9's for the block g
pub record Judged (ks : List ℕ) (t n : ℕ) (g w : List ℕ) (r : Bool) (w' : List ℕ) : Type 0 where
  pub answer : (l : Limits) → Placed w (4 * n) l n → r ≡ block_sound ks t l g
  pub kept : Within w n (2 * n) w'
