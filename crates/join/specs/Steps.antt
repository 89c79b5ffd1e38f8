-- What the functions that both calls are made of ask and promise.
use Rattle.std.specs.Prelude.{ℕ, ◌*◌, ◌≤◌, ◌≡◌, true, List, ◌++◌, Result, Ok, leb, length, drop}
use Rattle.rules.specs.declared.Gate.{Gate}
use Rattle.rules.specs.declared.Refusal.{Refusal}
use Rattle.rules.specs.declared.Refusal.TheVariants.{ShapeRange, GradeLimits, Sets, NoJoin, FirstBlock, ShortBuffer}
use Rattle.rules.specs.Cell.{cells}
use Rattle.rules.specs.Verdict.{accepted, unless, outcome_of}
use Rattle.rules.specs.Limits.{Limits, limits_of, limits_sound}
use Rattle.rules.specs.Join.{sets_sound, join_exists, first_limits, second_limits, block_sound}
use Rattle.rules.specs.Demands.{Table}
use Rattle.shape.specs.declared.Shape.{Shape}
use Rattle.shape.specs.Shapes.{places_of, is_sound}
use Rattle.join_tables.specs.Parts.{Placed, Opened}

-- what is read off a shape and two buffers before they are judged
pub record Ready (shape : Shape) (ks : List ℕ) (n : ℕ) (lower upper : List ℕ) (shortest : ℕ) : Type 0 where
  pub places : ks ≡ places_of shape
  pub count : n ≡ cells ks
  pub low : shortest ≤ length lower
  pub high : shortest ≤ length upper

-- rows 4, 10, 5 and 7, for whatever buffers the shortest of which has that length
pub record Judgement (shape : Shape) (l : Limits) (s t shortest : ℕ) (r : Result (Unit {0}) Refusal) : Type 0 where
  pub answer : r
      ≡ outcome_of
      (unless (is_sound shape) ShapeRange
      (unless (leb (cells (places_of shape)) shortest) ShortBuffer
      (unless (limits_sound (places_of shape) shape.m l) GradeLimits
      (unless (sets_sound (places_of shape) s t) Sets (accepted l)))))

-- limits to open a join under, and a work buffer for it
pub record Opening (ks : List ℕ) (m n : ℕ) (lower upper w : List ℕ) : Type 0 where
  pub table : Table ks m (limits_of lower upper)
  pub count : n ≡ cells ks
  pub low : n ≤ length lower
  pub high : n ≤ length upper
  pub room : 6 * n ≤ length w

module _ (gate : Gate) (ks : List ℕ) (m s t : ℕ) where
  -- the join under the limits l is open in a work buffer
  pub record Joining (l : Limits) (n : ℕ) (w : List ℕ) : Type 0 where
    pub table : Table ks m l
    pub count : n ≡ cells ks
    pub room : 6 * n ≤ length w
    pub opened : Opened gate ks m s t l n w

  -- it was opened: the answer is row 8's
  pub record Opens (l : Limits) (n : ℕ) (w : List ℕ) (r : Result (Unit {0}) Refusal) (w' : List ℕ) : Type 0 where
    pub answer : r ≡ outcome_of (unless (join_exists gate ks m s t l) NoJoin (accepted l))
    pub joining : Joining l n w'
    pub len : length w' ≡ length w

  -- some join that exists is open, and a first block is given
  pub record Given (n : ℕ) (g w : List ℕ) : Type 0 where
    pub l : Limits
    pub joining : Joining l n w
    pub exists : join_exists gate ks m s t l ≡ true
    pub block : n ≤ length g

  -- whatever join was open: the answer is row 9's, and where g passes, the limits of the second block
  pub record Completes (n : ℕ) (g w : List ℕ) (r : Result (Unit {0}) Refusal) (w' : List ℕ) : Type 0 where
    pub answer : (l : Limits) → Joining l n w → r ≡ outcome_of (unless (block_sound ks t (first_limits gate ks m s t l) g) FirstBlock (accepted (second_limits gate ks m s t l g)))
    pub limits : (l : Limits) → Joining l n w → r ≡ Ok tt → Placed w' (4 * n) (second_limits gate ks m s t l g) n
    pub len : length w' ≡ length w

-- whatever limits of n cells stand in parts 4 and 5: two buffers hold them, and behind them what they held
pub record Delivered (n : ℕ) (w to_lower to_upper to_lower' to_upper' : List ℕ) : Type 0 where
  pub lower : (l : Limits) → Placed w (4 * n) l n → length l.lower ≡ n → to_lower' ≡ l.lower ++ drop n to_lower
  pub upper : (l : Limits) → Placed w (4 * n) l n → length l.upper ≡ n → to_upper' ≡ l.upper ++ drop n to_upper
