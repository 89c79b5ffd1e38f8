-- What `grades_evaluate_each` promises.
use Rattle.std.specs.Prelude.{ℕ, ◌+◌, ◌-◌, ◌/◌, ◌≤◌, ◌<◌, ◌≡◌, List, length}
use Rattle.rules.specs.Bytes.{at, Past}
use Rattle.rules.specs.Verdict.{Verdict}
use Rattle.rules.specs.Visits.{byte_verdict}
use Rattle.rules.specs.Demands.{Capped}
use Rattle.shape.specs.Shapes.{places_of}
use Rattle.network.specs.Evaluating.{GradeAt}
use Rattle.network.specs.EvaluatingEach.{grades_after, each_rows}
use Rattle.panel_answers.specs.Answers.{lent_shape, lent_cells, lent, call_number, answer_number}
use Rattle.panel_networks.specs.Evaluates.{Evaluates}

module _ (net bytes visits grades work : List ℕ) where
  abbrev verdict : Verdict (List ℕ)
  verdict = lent bytes (each_rows net visits grades work)

  -- the answer and every byte of the grades' buffer, by the rows of request 3; a refusal leaves the work buffer too, a list with no number changes
  -- nothing, and of the work buffer its length and its bytes past one for each whole sixteen of the network stay
  pub record EvaluatesEach (r : ℕ) (grades' work' : List ℕ) : Type 0 where
    pub answer : r ≡ call_number verdict (λ written. 0)
    pub grades-after : grades' ≡ grades_after verdict grades
    -- in plain words, the byte for a cell is the network's grade there
    pub grade-means : r ≡ 0 → (i : ℕ) → i < length visits → at visits i < lent_cells bytes → GradeAt (lent_shape bytes) net (at visits i) (at grades' i)
    -- the ceilings of a network that was let pass bound the grades of its records
    pub capped : r ≡ 0 → Capped (places_of (lent_shape bytes)) net
    -- and each byte says what `grades_evaluate` answers for its number, whatever work buffer that is lent
    pub as_single : r ≡ 0 → (i : ℕ) → i < length visits → (w w' : List ℕ) (single : ℕ) → length net / 16 ≤ length w
        → Evaluates net bytes (at visits i) w w' single → single ≡ answer_number (byte_verdict (at grades' i))
    -- with room for the bytes, the call stops as `grades_evaluate` does with the same work buffer, whatever the cell
    pub stops_as_single : 65536 ≤ r → length visits ≤ length grades → (cell : ℕ) (w' : List ℕ) (single : ℕ)
        → Evaluates net bytes cell work w' single → single ≡ 256 + (r - 65536)
    pub refusal_keeps : 65536 ≤ r → work' ≡ work
    pub none-keeps : length visits ≡ 0 → (grades' ≡ grades) × (work' ≡ work)
    pub kept : Past (length net / 16) work work'
