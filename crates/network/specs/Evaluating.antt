-- What `evaluate` promises.
use Rattle.std.specs.Prelude.{ℕ, ◌/◌, ◌<◌, ◌≡◌, Bool, List, [], ◌∷◌, length, Result, Ok, Err}
use Rattle.rules.specs.declared.Refusal.{Refusal}
use Rattle.rules.specs.declared.Refusal.TheVariants.{ShapeRange, ShortBuffer, Network}
use Rattle.rules.specs.Verdict.{Verdict, accepted, unless, verdict_of, says, answer_of}
use Rattle.rules.specs.Network.{network_sound, evaluate}
use Rattle.rules.specs.NetworkCalls.{evaluate_call}
use Rattle.rules.specs.Demands.{Capped}
use Rattle.rules.specs.Bytes.{Past}
use Rattle.shape.specs.declared.Shape.{Shape}
use Rattle.shape.specs.Shapes.{cards_of, places_of, is_sound}

-- what a single evaluation and that of a list ask first; of the lent buffers, whether they have room
abbrev pub judged : Shape → List ℕ → Bool → Verdict (Unit {0})
judged shape net room =
    unless (is_sound shape) ShapeRange (unless room ShortBuffer (unless (network_sound (places_of shape) shape.m net) Network (accepted tt)))

abbrev pub evaluation_verdict : Result ℕ Refusal → Verdict ℕ
evaluation_verdict = verdict_of (λ q. q)

-- the network's grade at a cell
pub record GradeAt (shape : Shape) (net : List ℕ) (cell q : ℕ) : Type 0 where
  pub reads : q ≡ evaluate (places_of shape) net cell
  pub below : q < shape.m

-- the answer by the rows of document 01; in plain words, a grade is the network's at the cell, and the ceilings of a network that has one
-- bound the grades of its records; the work buffer stays past a byte for each record, and all of it stays under a refusal
pub record Evaluated (shape : Shape) (net : List ℕ) (cell : ℕ) (work after : List ℕ) (answer : Result ℕ Refusal) : Type 0 where
  pub answers : evaluation_verdict answer ≡ evaluate_call shape.n (cards_of shape) shape.m net (length work) cell
  pub means : says (λ q. q ∷ []) answer ≡ answer_of (λ q. q ∷ []) (evaluate_call shape.n (cards_of shape) shape.m net (length work) cell)
  pub grade-means : (q : ℕ) → answer ≡ Ok q → GradeAt shape net cell q
  pub capped : (q : ℕ) → answer ≡ Ok q → Capped (places_of shape) net
  pub refusal_keeps : (r : Refusal) → answer ≡ Err r → after ≡ work
  pub kept : Past (length net / 16) work after
