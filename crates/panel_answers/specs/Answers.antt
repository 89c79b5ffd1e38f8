-- What C lends as a shape, and the number that it gets for a verdict.
use Rattle.std.specs.Prelude.{ℕ, ◌+◌, ◌*◌, ◌≤◌, ◌<◌, ◌≡◌, cond, List, eqb, length, take, drop, Option, Some, Result, Ok, Err}
use Rattle.rules.specs.declared.Refusal.{Refusal}
use Rattle.rules.specs.declared.Refusal.TheVariants.{ShapeRange}
use Rattle.rules.specs.Bytes.{at}
use Rattle.rules.specs.Cell.{cells}
use Rattle.rules.specs.Refusal.{refusal_number}
use Rattle.rules.specs.Verdict.{Verdict, accepted, refused}
use Rattle.rules.specs.NetworkCalls.{CheckResult, within, outside}
use Rattle.shape.specs.declared.Shape.{Shape}
use Rattle.shape.specs.Shapes.{shape_from, places_of}
use Rattle.network.specs.declared.Outside.{Outside}
use Rattle.network.specs.Evaluating.{evaluation_verdict}
use Rattle.network.specs.Checking.{result_found}

-- the shape that ten bytes make: n, the eight cardinalities, m
abbrev pub lent_shape : List ℕ → Shape
lent_shape bytes = shape_from (at bytes 0) (take 8 (drop 1 bytes)) (at bytes 9)

-- how many cells it has
abbrev pub lent_cells : List ℕ → ℕ
lent_cells bytes = cells (places_of (lent_shape bytes))

-- the verdict of a call that is lent a shape: by its rows if there are ten bytes, else refusal 4
abbrev pub lent : {A : Type 0} → List ℕ → (Shape → Verdict A) → Verdict A
lent bytes rows = cond (eqb (length bytes) 10) (rows (lent_shape bytes)) (refused ShapeRange)

-- what C gets, but for `grades_evaluate`: a number for what is accepted, or 65,536 plus that of the refusal
abbrev pub call_number : {A : Type 0} → Verdict A → (A → ℕ) → ℕ
call_number (accepted a) number = number a
call_number (refused r) number = 65536 + refusal_number r

-- from `grades_evaluate`: a grade as itself, a refusal as 256 plus its number
abbrev pub answer_number : Verdict ℕ → ℕ
answer_number (accepted grade) = grade
answer_number (refused r) = 256 + refusal_number r

-- of a check: 0, or one number for the first cell outside and its grade
abbrev pub result_number : CheckResult → ℕ
result_number within = 0
result_number (outside cell grade) = 1 + 16 * cell + grade

-- the same, of the answers that the calls of the other crates give
abbrev pub reply_number : {A : Type 0} → Result A Refusal → (A → ℕ) → ℕ
reply_number (Ok a) number = number a
reply_number (Err r) number = 65536 + refusal_number r

abbrev pub outcome_number : Result (Unit {0}) Refusal → ℕ
outcome_number outcome = reply_number outcome (λ u. 0)

abbrev pub compile_number : Result ℕ Refusal → ℕ
compile_number answer = reply_number answer (λ n. n)

abbrev pub check_number : Result (Option Outside) Refusal → ℕ
check_number answer = reply_number answer (λ found. result_number (result_found found))

-- answers whose numbers are below the refusals'
abbrev pub FewRecords : Result ℕ Refusal → Type 0
FewRecords answer = (n : ℕ) → answer ≡ Ok n → n ≤ 4096

abbrev pub FewCells : Result (Option Outside) Refusal → Type 0
FewCells answer = (found : Outside) → answer ≡ Ok (Some found) → found.cell < 1024

-- an evaluation as C gets it; no grade reaches the refusals
pub record Answered (evaluation : Result ℕ Refusal) (r : ℕ) : Type 0 where
  pub number : r ≡ answer_number (evaluation_verdict evaluation)
  pub below : (grade : ℕ) → evaluation ≡ Ok grade → r < 256
