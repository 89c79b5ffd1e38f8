-- The walk over the classes of a set: the cells that agree outside it. What it has done at each place.
use Rattle.std.specs.Prelude.{ℕ, ◌+◌, ◌/◌, ◌%◌, ◌≤◌, ◌<◌, ◌≡◌, Bool, List, T, length}
use Rattle.rules.specs.Bytes.{at}
use Rattle.rules.specs.Cell.{present, has, agree_outside}
use Rattle.tables.specs.Line.{order}

-- x is the extreme of f over the numbers that have P: it bounds them, and is the first that does
pub record Extreme (greatest : Bool) (f : ℕ → ℕ) (P : ℕ → Type 0) (x : ℕ) : Type 0 where
  pub bound : (d : ℕ) → P d → order greatest (f d) x
  pub first : (b : ℕ) → ((d : ℕ) → P d → order greatest (f d) b) → order greatest x b

-- of n cells in tables of `size` cells, one behind the other: d is in c's table and agrees with c outside the set
pub record Class (ks : List ℕ) (set size n c d : ℕ) : Type 0 where
  pub below : d < n
  pub table : c / size ≡ d / size
  pub agree : T (agree_outside ks set (c % size) (d % size))

-- w' is w with, at the first m of n cells at to, the extreme of the grades g over the cell's class
pub record Swept (greatest : Bool) (ks : List ℕ) (set size n : ℕ) (g w : List ℕ) (to m : ℕ) (w' : List ℕ) : Type 0 where
  pub len : length w' ≡ length w
  pub here : (c : ℕ) → c < m → Extreme greatest (at g) (Class ks set size n c) (at w' (to + c))
  pub before : (j : ℕ) → j < to → at w' j ≡ at w j
  pub after : (j : ℕ) → to + m ≤ j → at w' j ≡ at w j

-- the lowest member of a set, and so many low places whose conditions are all members
pub record Members (ks : List ℕ) (set lowest run : ℕ) : Type 0 where
  pub member : T (has set lowest)
  pub none : (j : ℕ) → j < lowest → T (has set j) → ⊥
  pub inside : (j : ℕ) → j < run → T (present ks j) → T (has set j)
