-- What visiting the cells of a list asks for, and what it leaves.
use Rattle.std.specs.Prelude.{ℕ, ◌/◌, ◌≤◌, ◌<◌, ◌≡◌, List, map, ◌++◌, ◌⊎◌, length, drop}
use Rattle.rules.specs.Bytes.{at, Past}
use Rattle.rules.specs.Cell.{cells}
use Rattle.rules.specs.Network.{evaluate}
use Rattle.rules.specs.Visits.{no_cell_byte, visit_byte}
use Rattle.shape.specs.declared.Shape.{Shape}
use Rattle.shape.specs.Shapes.{places_of}
use Rattle.network_run.specs.Grades.{Ready}

-- what is known of the cells: the network's grade there, or nothing yet, which is 255
pub record Known (ks net known : List ℕ) : Type 0 where
  pub long : length known ≡ 1024
  pub grade : (cell : ℕ) → cell < cells ks → (at known cell ≡ no_cell_byte) ⊎ (at known cell ≡ evaluate ks net cell)

-- a network that can be run at every cell
pub record Visitable (shape : Shape) (net : List ℕ) (count : ℕ) (known work : List ℕ) : Type 0 where
  pub ready : Ready shape net work
  pub counted : count ≡ cells (places_of shape)
  pub knows : Known (places_of shape) net known

-- the byte for one number, and what is known then
pub record Visited (shape : Shape) (net : List ℕ) (cell : ℕ) (work : List ℕ) (byte : ℕ) (known' work' : List ℕ) : Type 0 where
  pub right : byte ≡ visit_byte (places_of shape) net cell
  pub knows : Known (places_of shape) net known'
  pub kept : Past (length net / 16) work work'

-- a list with room for its bytes
pub record ListReady (shape : Shape) (net visits grades work : List ℕ) : Type 0 where
  pub ready : Ready shape net work
  pub room : length visits ≤ length grades

-- a byte for each number, and what lay behind them; no number, and the work buffer is as it was
pub record VisitedEach (shape : Shape) (net visits grades work grades' work' : List ℕ) : Type 0 where
  pub bytes : grades' ≡ map (visit_byte (places_of shape) net) visits ++ drop (length visits) grades
  pub kept : Past (length net / 16) work work'
  pub none-keeps : length visits ≡ 0 → work' ≡ work
