-- The promise of `evaluate`, from its answer.
use Prim.Native.Nat.{ℕ, ◌/◌, ◌<◌}
use mathlib.Core.Path.{◌≡◌, refl, sym, ◌∙◌, ap, subst}
use mathlib.Core.Bool.{true}
use mathlib.Core.List.{List, [], ◌∷◌}
use Rattle.std.specs.Prelude.{Result, Ok, Err}
use lib.Dec.{leb, ltb}
use lib.ListN.{length}
use Rattle.rules.specs.declared.Refusal.{Refusal}
use Rattle.rules.specs.declared.Refusal.TheVariants.{ShapeRange, ShortBuffer, Network, CellNumber}
use Rattle.rules.specs.Bytes.{Past}
use Rattle.rules.specs.Cell.{cells}
use Rattle.rules.specs.Verdict.{Verdict, accepted, refused, answer_of}
use Rattle.rules.specs.Network.{network_sound, evaluate}
use Rattle.rules.specs.NetworkCalls.{evaluate_call}
use Rattle.rules.specs.Demands.{Capped}
use Rattle.laws.proofs.TestLaws.{passes}
use Rattle.laws.proofs.VerdictLaws.{accepted-same, row_passed, ok-err, says-verdict}
use Rattle.laws.proofs.CeilingLaws.{sound-capped}
use Rattle.laws.proofs.ByteLaws.{past_same}
use Rattle.shape.specs.declared.Shape.{Shape}
use Rattle.shape.specs.Shapes.{cards_of, places_of, is_sound}
use Rattle.network_run.proofs.BelowLaws.{grade-below}
use Rattle.network.specs.Evaluating.{evaluation_verdict, GradeAt, Evaluated}

-- the grade of a sound network
pub network-grade : {shape : Shape} {net : List ℕ} {cell q : ℕ} → is_sound shape ≡ true → network_sound (places_of shape) shape.m net ≡ true
    → q ≡ evaluate (places_of shape) net cell → GradeAt shape net cell q
network-grade {shape} {net} {cell} sound network e =
    record { reads = e; below = subst (λ (x : ℕ). x < shape.m) (sym e) (grade-below shape net sound network cell) }

module _ (shape : Shape) (net : List ℕ) (cell : ℕ) (work : List ℕ) where
  abbrev rows : Verdict ℕ
  rows = evaluate_call shape.n (cards_of shape) shape.m net (length work) cell

  -- what a call that answers a grade has passed
  grade-at : {q : ℕ} → rows ≡ accepted q → GradeAt shape net cell q × Capped (places_of shape) net
  grade-at {q} e =
      let ks : List ℕ = places_of shape in
      let sound = row_passed (is_sound shape) ShapeRange _ e in
      let room = row_passed (leb (length net / 16) (length work)) ShortBuffer _ sound.1 in
      let network = row_passed (network_sound ks shape.m net) Network _ room.1 in
      let there = row_passed (ltb cell (cells ks)) CellNumber _ network.1 in
      (network-grade sound.0 network.0 (sym (accepted-same there.1)), sound-capped ks shape.m net (passes network.0))

  module _ {answer : Result ℕ Refusal} (e : evaluation_verdict answer ≡ rows) where
    grade-means : (q : ℕ) → answer ≡ Ok q → GradeAt shape net cell q × Capped (places_of shape) net
    grade-means q a = grade-at (sym e ∙ ap evaluation_verdict a)

    pub evaluated : {after : List ℕ} → ((r : Refusal) → answer ≡ Err r → after ≡ work) → Past (length net / 16) work after → Evaluated shape net cell work after answer
    evaluated keeps kept =
        record {
          answers = e;
          means = says-verdict (λ (q : ℕ). q) (λ (q : ℕ). q ∷ []) answer ∙ ap (answer_of (λ (q : ℕ). q ∷ [])) e;
          grade-means = λ q a. (grade-means q a).0;
          capped = λ q a. (grade-means q a).1;
          refusal_keeps = keeps;
          kept = kept;
        }

  -- a refusal
  pub evaluate-stops : {r : Refusal} → refused r ≡ rows → Evaluated shape net cell work work (Err r)
  evaluate-stops e = evaluated e (λ q h. refl) past_same

  -- a grade
  pub evaluate-answers : {q : ℕ} {after : List ℕ} → accepted q ≡ rows → Past (length net / 16) work after → Evaluated shape net cell work after (Ok q)
  evaluate-answers e kept = evaluated e (λ r h. ok-err h) kept
