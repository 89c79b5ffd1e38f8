-- The promise of `grades_evaluate`, from what the parts of the call answer.
use Prim.Native.Nat.{ℕ, ◌≤◌, ◌<◌}
use mathlib.Core.Path.{◌≡◌, refl, sym, ap, subst, ◌∙◌}
use mathlib.Core.List.{List}
use native.Mathlib.Omega.{arith}
use lib.ListN.{length}
use Rattle.std.specs.Prelude.{Result, Ok, Err}
use Rattle.rules.specs.declared.Refusal.{Refusal}
use Rattle.rules.specs.Verdict.{refused}
use Rattle.rules.specs.Demands.{Capped}
use Rattle.laws.proofs.ByteLaws.{past_same}
use Rattle.shape.specs.declared.Shape.{Shape}
use Rattle.shape.specs.Shapes.{places_of, shape_of_bytes}
use Rattle.network.specs.Evaluating.{Evaluated, GradeAt}
use Rattle.panel_networks.specs.Evaluates.{evaluate_rows, Evaluates}
use Rattle.panel_answers.specs.Answers.{answer_number, Answered}
use Rattle.panel_answers.proofs.ShapeLaws.{Made, made_lent, lent-refused}

-- an answer of 256 or more is a refusal
keeps : (work after : List ℕ) (e : Result ℕ Refusal) (r : ℕ) → ((q : Refusal) → e ≡ Err q → after ≡ work) → ((grade : ℕ) → e ≡ Ok grade → r < 256) → 256 ≤ r → after ≡ work
keeps work after (Ok grade) r k b h = absurd (omega (arith, b grade refl))
keeps work after (Err q) r k b h = k q refl

-- and one below 256 a grade
means : {P : ℕ → Type 0} (e : Result ℕ Refusal) (r : ℕ) → ((q : ℕ) → e ≡ Ok q → P q) → Answered e r → r < 256 → P r
means {P} (Ok q) r f a h = subst P (sym a.number) (f q refl)
means (Err q) r f a h = absurd (omega (arith, a.number))

module _ (net bytes : List ℕ) (cell : ℕ) (work : List ℕ) where
  pub evaluates : (s : Shape) (e : Result ℕ Refusal) (after : List ℕ) (r : ℕ) → Made bytes s → Evaluated s net cell work after e → Answered e r → Evaluates net bytes cell work after r
  evaluates s e after r made found answered =
      record {
        answer = answered.number ∙ ap answer_number (found.answers ∙ made_lent bytes (evaluate_rows net (length work) cell) made);
        grade-means = λ h. subst (λ (x : Shape). GradeAt x net cell r) made.same (means {P = GradeAt s net cell} e r found.grade-means answered h);
        capped = λ h. subst (λ (x : Shape). Capped (places_of x) net) made.same (means {P = λ q. Capped (places_of s) net} e r found.capped answered h);
        refusal_keeps = keeps work after e r found.refusal_keeps answered.below;
        kept = found.kept;
      }

  pub refuses : (q : Refusal) (r : ℕ) → shape_of_bytes bytes ≡ refused q → Answered (Err q) r → Evaluates net bytes cell work work r
  refuses q r p answered =
      record {
        answer = answered.number ∙ ap answer_number (sym (lent-refused bytes p (evaluate_rows net (length work) cell) (λ s e. rw e)));
        grade-means = λ h. absurd (omega (arith, answered.number));
        capped = λ h. absurd (omega (arith, answered.number));
        refusal_keeps = λ h. refl;
        kept = past_same;
      }
