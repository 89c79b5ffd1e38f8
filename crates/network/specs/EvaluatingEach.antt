-- What `evaluate_each` promises.
use Rattle.std.specs.Prelude.{ℕ, ◌/◌, ◌≤◌, ◌<◌, ◌≡◌, List, [], ◌++◌, length, drop, Result, Ok, Err}
use Rattle.rules.specs.declared.Refusal.{Refusal}
use Rattle.rules.specs.Bytes.{at, Past}
use Rattle.rules.specs.Cell.{cells}
use Rattle.rules.specs.Verdict.{Verdict, accepted, refused, answer_of, outcome_of, outcome_means}
use Rattle.rules.specs.Visits.{byte_verdict, evaluate_each_call}
use Rattle.rules.specs.Demands.{Capped}
use Rattle.shape.specs.declared.Shape.{Shape}
use Rattle.shape.specs.Shapes.{cards_of, places_of}
use Rattle.network.specs.Evaluating.{evaluation_verdict, GradeAt, Evaluated}

-- the output buffer after a call: a byte for each number and what lay behind them, or all as it was
abbrev pub grades_after : Verdict (List ℕ) → List ℕ → List ℕ
grades_after (accepted bytes) grades = bytes ++ drop (length bytes) grades
grades_after (refused q) grades = grades

-- the rows of request 3
abbrev pub each_rows : List ℕ → List ℕ → List ℕ → List ℕ → Shape → Verdict (List ℕ)
each_rows net visits grades work shape = evaluate_each_call shape.n (cards_of shape) shape.m net (length work) visits (length grades)

module _ (shape : Shape) (net visits grades work : List ℕ) where
  abbrev verdict : Verdict (List ℕ)
  verdict = each_rows net visits grades work shape

  -- the answer and every byte of the output buffer, by these rows; a refusal leaves the work buffer too, a list with no number changes nothing,
  -- and of the work buffer its length and its bytes past one for each record stay
  pub record EvaluatedEach (r : Result (Unit {0}) Refusal) (grades' work' : List ℕ) : Type 0 where
    pub answer : r ≡ outcome_of verdict
    pub means : outcome_means r ≡ answer_of (λ bytes. []) verdict
    pub grades-after : grades' ≡ grades_after verdict grades
    -- in plain words, the byte for a cell is the network's grade there
    pub grade-means : r ≡ Ok tt → (i : ℕ) → i < length visits → at visits i < cells (places_of shape) → GradeAt shape net (at visits i) (at grades' i)
    -- the ceilings of a network that was let pass bound the grades of its records
    pub capped : r ≡ Ok tt → Capped (places_of shape) net
    -- and each byte says what `evaluate` answers for its number, whatever work buffer that is lent
    pub as_single : r ≡ Ok tt → (i : ℕ) → i < length visits → (w w' : List ℕ) (single : Result ℕ Refusal) → length net / 16 ≤ length w
        → Evaluated shape net (at visits i) w w' single → evaluation_verdict single ≡ byte_verdict (at grades' i)
    -- with room for the bytes, the call stops as `evaluate` does with the same work buffer, whatever the cell
    pub stops_as_single : (q : Refusal) → r ≡ Err q → length visits ≤ length grades → (cell : ℕ) (w' : List ℕ) (single : Result ℕ Refusal)
        → Evaluated shape net cell work w' single → evaluation_verdict single ≡ refused q
    pub refusal_keeps : (q : Refusal) → r ≡ Err q → work' ≡ work
    pub none-keeps : length visits ≡ 0 → (grades' ≡ grades) × (work' ≡ work)
    pub kept : Past (length net / 16) work work'
