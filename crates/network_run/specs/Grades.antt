-- What running a network at a cell asks for, and what it leaves in the work buffer.
use Rattle.std.specs.Prelude.{ℕ, ◌+◌, ◌/◌, ◌≤◌, ◌<◌, min, max, ◌≡◌, true, cond, List, [], eqb, length, take}
use Rattle.rules.specs.Bytes.{at, word, Past}
use Rattle.rules.specs.Cell.{value}
use Rattle.rules.specs.Network.{network_sound, network_records, run, evaluate}
use Rattle.shape.specs.declared.Shape.{Shape}
use Rattle.shape.specs.Shapes.{places_of, is_sound}

-- a gate's grade, by the byte of its kind
abbrev pub gate_grade : ℕ → ℕ → ℕ → ℕ
gate_grade kind left right = cond (eqb kind 2) (min left right) (max left right)

-- the grade of a record's bytes where condition i has the value v i, from the grades of the records before it
abbrev pub byte_grade : (ℕ → ℕ) → List ℕ → List ℕ → ℕ
byte_grade v done r =
    cond (eqb (at r 0) 0) (at r 1)
    (cond (eqb (at r 0) 1) (at r (8 + v (at r 1)))
    (gate_grade (at r 0) (at done (word r 4)) (at done (word r 6))))

-- a record that can be read: what it names is there
pub record Readable (values done r : List ℕ) : Type 0 where
  pub small : (i : ℕ) → at values i < 8
  pub condition : at r 0 ≡ 1 → at r 1 < 8
  pub records : 2 ≤ at r 0 → (word r 4 < length done) × (word r 6 < length done)

-- a sound network over a sound shape, with room for a grade of each record
pub record Ready (shape : Shape) (net work : List ℕ) : Type 0 where
  pub shape-sound : is_sound shape ≡ true
  pub network-sound : network_sound (places_of shape) shape.m net ≡ true
  pub room : length net / 16 ≤ length work

-- the grade of every record at a cell, in order
pub record Ran (ks net : List ℕ) (cell : ℕ) (work after : List ℕ) : Type 0 where
  pub grades : take (length net / 16) after ≡ run (value ks cell) [] (network_records ks net)
  pub kept : Past (length net / 16) work after

-- and the network's grade
pub record Graded (ks net : List ℕ) (cell : ℕ) (work after : List ℕ) (grade : ℕ) : Type 0 where
  pub right : grade ≡ evaluate ks net cell
  pub kept : Past (length net / 16) work after
