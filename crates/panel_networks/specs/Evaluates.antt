-- What `grades_evaluate` promises.
use Rattle.std.specs.Prelude.{ℕ, ◌≤◌, ◌<◌, ◌/◌, ◌≡◌, List, length}
use Rattle.rules.specs.Verdict.{Verdict}
use Rattle.rules.specs.NetworkCalls.{evaluate_call}
use Rattle.rules.specs.Demands.{Capped}
use Rattle.rules.specs.Bytes.{Past}
use Rattle.network.specs.Evaluating.{GradeAt}
use Rattle.shape.specs.declared.Shape.{Shape}
use Rattle.shape.specs.Shapes.{cards_of, places_of}
use Rattle.panel_answers.specs.Answers.{lent_shape, lent, answer_number}

-- the rows of document 01 for evaluating
abbrev pub evaluate_rows : List ℕ → ℕ → ℕ → Shape → Verdict ℕ
evaluate_rows net work cell shape = evaluate_call shape.n (cards_of shape) shape.m net work cell

-- the answer by the rows of document 01; in plain words, what is below 256 is the network's grade at the cell; the work buffer stays past a byte for each whole sixteen of the network, and all of it
-- stays under a refusal
pub record Evaluates (net bytes : List ℕ) (cell : ℕ) (work after : List ℕ) (r : ℕ) : Type 0 where
  pub answer : r ≡ answer_number (lent bytes (evaluate_rows net (length work) cell))
  pub grade-means : r < 256 → GradeAt (lent_shape bytes) net cell r
  -- the ceilings of a network that was let pass bound the grades of its records
  pub capped : r < 256 → Capped (places_of (lent_shape bytes)) net
  pub refusal_keeps : 256 ≤ r → after ≡ work
  pub kept : Past (length net / 16) work after
