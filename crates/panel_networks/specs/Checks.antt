-- What `grades_check` promises.
use Rattle.std.specs.Prelude.{ℕ, ◌-◌, ◌/◌, ◌%◌, ◌≤◌, ◌<◌, ◌≡◌, List, length}
use Rattle.rules.specs.Bytes.{at, Past}
use Rattle.rules.specs.Cell.{cells}
use Rattle.rules.specs.Verdict.{Verdict, verdict_number}
use Rattle.rules.specs.Network.{evaluate}
use Rattle.rules.specs.NetworkCalls.{CheckResult}
use Rattle.rules.specs.Demands.{Capped}
use Rattle.shape.specs.declared.Shape.{Shape}
use Rattle.shape.specs.Shapes.{places_of}
use Rattle.network.specs.Checking.{check_rows, EveryWithin}
use Rattle.panel_answers.specs.Answers.{lent_shape, lent, call_number, result_number}

-- the first cell whose grade is not between its limits, and that grade
pub record FirstOutside (shape : Shape) (net lower upper : List ℕ) (cell grade : ℕ) : Type 0 where
  pub there : cell < cells (places_of shape)
  pub reads : grade ≡ evaluate (places_of shape) net cell
  pub out : at lower cell ≤ grade → grade ≤ at upper cell → ⊥
  pub first : (c : ℕ) → c < cell → (at lower c ≤ evaluate (places_of shape) net c) × (evaluate (places_of shape) net c ≤ at upper c)

module _ (net bytes lower upper work : List ℕ) where
  abbrev verdict : Verdict CheckResult
  verdict = lent bytes (λ shape. check_rows shape net lower upper work)

  -- the answer by the rows of document 01; in plain words, 0 exactly when the call is accepted and every cell is within, and what else is
  -- no refusal tells the first cell outside and its grade apart; the work buffer as for `grades_evaluate`
  pub record Checks (r : ℕ) (after : List ℕ) : Type 0 where
    pub answer : r ≡ call_number verdict result_number
    pub within-means : r ≡ 0 → (verdict_number verdict ≡ 0) × EveryWithin (lent_shape bytes) net lower upper
    pub within_when : verdict_number verdict ≡ 0 → EveryWithin (lent_shape bytes) net lower upper → r ≡ 0
    -- the ceilings of a network that was let pass bound the grades of its records
    pub capped : r < 65536 → Capped (places_of (lent_shape bytes)) net
    pub outside-means : 1 ≤ r → r < 65536 → FirstOutside (lent_shape bytes) net lower upper ((r - 1) / 16) ((r - 1) % 16)
    pub refusal_keeps : 65536 ≤ r → after ≡ work
    pub kept : Past (length net / 16) work after
