-- What `check` promises.
use Rattle.std.specs.Prelude.{ℕ, ◌≤◌, ◌/◌, ◌≡◌, List, [], ◌∷◌, length, Option, Some, None, Result, Ok, Err}
use Rattle.rules.specs.declared.Refusal.{Refusal}
use Rattle.rules.specs.Bytes.{Past}
use Rattle.rules.specs.Cell.{cells}
use Rattle.rules.specs.Limits.{limits_of}
use Rattle.rules.specs.Verdict.{Verdict, verdict_number, verdict_of, says, answer_of}
use Rattle.rules.specs.Network.{evaluate}
use Rattle.rules.specs.Demands.{Inside, Capped}
use Rattle.rules.specs.NetworkCalls.{CheckResult, within, outside, check_from, check_call}
use Rattle.shape.specs.declared.Shape.{Shape}
use Rattle.shape.specs.Shapes.{cards_of, places_of}
use Rattle.network.specs.declared.Outside.{Outside}
use Rattle.network_run.specs.Grades.{Ready}

-- what was found: nothing where all is within, or the first cell outside and its grade
abbrev pub result_found : Option Outside → CheckResult
result_found None = within
result_found (Some found) = outside found.cell found.grade

abbrev pub check_verdict : Result (Option Outside) Refusal → Verdict CheckResult
check_verdict = verdict_of result_found

-- what it says in 01's numbers
abbrev pub result_values : CheckResult → List ℕ
result_values within = []
result_values (outside cell grade) = cell ∷ grade ∷ []

-- the rows of document 01 for a check
abbrev pub check_rows : Shape → List ℕ → List ℕ → List ℕ → List ℕ → Verdict CheckResult
check_rows shape net lower upper work =
    check_call shape.n (cards_of shape) shape.m net (length work) (limits_of lower upper) (length lower) (length upper)

-- in every cell the network's grade lies between the limits
abbrev pub EveryWithin : Shape → List ℕ → List ℕ → List ℕ → Type 0
EveryWithin shape net lower upper = Inside (places_of shape) (limits_of lower upper) (evaluate (places_of shape) net)

-- the answer by the rows of document 01; in plain words, `Ok(None)` exactly when the call is accepted, its verdict having number 0, and every
-- cell is within; the work buffer as for `evaluate`
pub record Checked (shape : Shape) (net lower upper work after : List ℕ) (answer : Result (Option Outside) Refusal) : Type 0 where
  pub answers : check_verdict answer ≡ check_rows shape net lower upper work
  pub means : says (λ found. result_values (result_found found)) answer ≡ answer_of result_values (check_rows shape net lower upper work)
  pub within-means : answer ≡ Ok None → (verdict_number (check_rows shape net lower upper work) ≡ 0) × EveryWithin shape net lower upper
  pub within_when : verdict_number (check_rows shape net lower upper work) ≡ 0 → EveryWithin shape net lower upper → answer ≡ Ok None
  -- the ceilings of a network that was let pass bound the grades of its records
  pub capped : verdict_number (check_rows shape net lower upper work) ≡ 0 → Capped (places_of shape) net
  pub refusal_keeps : (r : Refusal) → answer ≡ Err r → after ≡ work
  pub kept : Past (length net / 16) work after

-- what the search for a cell outside asks for
pub record Checkable (shape : Shape) (net lower upper work : List ℕ) : Type 0 where
  pub ready : Ready shape net work
  pub lower-room : cells (places_of shape) ≤ length lower
  pub upper-room : cells (places_of shape) ≤ length upper

-- and what it finds
pub record Searched (shape : Shape) (net lower upper work after : List ℕ) (answer : Option Outside) : Type 0 where
  pub finds : result_found answer ≡ check_from (places_of shape) (limits_of lower upper) net 0 (cells (places_of shape))
  pub kept : Past (length net / 16) work after
