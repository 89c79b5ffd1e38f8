-- The promise of `grades_evaluate_each`, from what the parts of the call answer.
use Prim.Native.Nat.{ℕ, ◌+◌, ◌/◌, ◌≤◌}
use mathlib.Core.Path.{◌≡◌, refl, sym, ap, subst, ◌∙◌}
use mathlib.Core.Bool.{Bool, true, false, cond}
use mathlib.Core.List.{List}
use native.Mathlib.Omega.{arith}
use lib.Dec.{eqb}
use lib.ListN.{length}
use Rattle.std.specs.Prelude.{Result, Ok, Err}
use Rattle.rules.specs.declared.Refusal.{Refusal}
use Rattle.rules.specs.declared.Refusal.TheVariants.{ShapeRange}
use Rattle.rules.specs.Bytes.{at, Past}
use Rattle.rules.specs.Refusal.{refusal_number}
use Rattle.rules.specs.Verdict.{Verdict, accepted, refused}
use Rattle.rules.specs.Visits.{byte_verdict}
use Rattle.laws.proofs.VerdictLaws.{refused-same}
use Rattle.laws.proofs.ByteLaws.{past_same}
use Rattle.shape.specs.declared.Shape.{Shape}
use Rattle.shape.specs.Shapes.{shape_of_bytes}
use Rattle.network.specs.Evaluating.{GradeAt}
use Rattle.network.specs.EvaluatingEach.{grades_after, each_rows, EvaluatedEach}
use Rattle.network.proofs.EachLaws.{each-grade, each-capped, each-single, stops-single}
use Rattle.panel_answers.specs.Answers.{lent_shape, lent, call_number, answer_number, outcome_number}
use Rattle.panel_answers.proofs.ShapeLaws.{Made, called, lent-accepted, ten_lent, made_lent, lent-refused}
use Rattle.panel_answers.proofs.OutcomeLaws.{reply_number_lem}
use Rattle.panel_networks.specs.Evaluates.{evaluate_rows}
use Rattle.panel_networks.specs.EvaluatesEach.{EvaluatesEach}

-- by its number an answer, and a verdict, is a refusal
keeps : (a : Result (Unit {0}) Refusal) (work work' : List ℕ) → ((q : Refusal) → a ≡ Err q → work' ≡ work) → 65536 ≤ outcome_number a → work' ≡ work
keeps (Ok u) work work' k h = absurd (omega arith)
keeps (Err q) work work' k h = k q refl

stopped : (v : Verdict (List ℕ)) → 65536 ≤ call_number v (λ written. 0) → (q : Refusal) × (v ≡ refused q)
stopped (accepted bytes) h = absurd (omega arith)
stopped (refused q) h = (q, refl)

module _ (net bytes visits grades work : List ℕ) where
  abbrev rows : Shape → Verdict (List ℕ)
  rows = each_rows net visits grades work

  -- a list that is refused, and one evaluation
  lent-stops : {q : Refusal} → lent bytes rows ≡ refused q → length visits ≤ length grades → (cell : ℕ) → lent bytes (evaluate_rows net (length work) cell) ≡ refused q
  lent-stops {q} e room cell = go (eqb (length bytes) 10) e
    where
      go : (ten : Bool) → cond ten (rows (lent_shape bytes)) (refused ShapeRange) ≡ refused q → cond ten (evaluate_rows net (length work) cell (lent_shape bytes)) (refused ShapeRange) ≡ refused q
      go true h = stops-single (lent_shape bytes) net visits grades work h room cell
      go false h = ap refused (refused-same h)

  module _ {r : ℕ} {grades' : List ℕ} (number : r ≡ call_number (lent bytes rows) (λ written. 0)) (after : grades' ≡ grades_after (lent bytes rows) grades) where
    -- bytes were written: there are ten bytes of shape, and the rows accept them
    wrote : r ≡ 0 → (written : List ℕ) × (length bytes ≡ 10) × (rows (lent_shape bytes) ≡ accepted written)
    wrote z =
        let v = called (lent bytes rows) (λ written. 0) (omega arith) in
        let l = lent-accepted bytes rows v.1 in (v.0, l.0, l.1)

    after-rows : length bytes ≡ 10 → grades_after (rows (lent_shape bytes)) grades ≡ grades'
    after-rows ten = sym (after ∙ ap (λ (v : Verdict (List ℕ)). grades_after v grades) (ten_lent bytes rows ten))

    promised : {work' : List ℕ} → (65536 ≤ r → work' ≡ work) → (length visits ≡ 0 → (grades' ≡ grades) × (work' ≡ work)) → Past (length net / 16) work work' → EvaluatesEach net bytes visits grades work r grades' work'
    promised refusal none kept =
        record {
          answer = number;
          grades-after = after;
          grade-means = λ z i h l.
              let v = wrote z in
              subst (λ (g : List ℕ). GradeAt (lent_shape bytes) net (at visits i) (at g i)) (after-rows v.1) (each-grade (lent_shape bytes) net visits grades work v.2 i h l);
          capped = λ z. each-capped (lent_shape bytes) net visits grades work (wrote z).2;
          as_single = λ z i h w w' single room found.
              let v = wrote z in
              found.answer
              ∙ ap answer_number
              (ten_lent bytes (evaluate_rows net (length w) (at visits i)) v.1 ∙ each-single (lent_shape bytes) net visits grades work v.2 i h (length w) room
              ∙ ap (λ (g : List ℕ). byte_verdict (at g i)) (after-rows v.1));
          stops_as_single = λ h room cell w' single found.
              let s = stopped (lent bytes rows) (omega arith) in
              let all : r ≡ 65536 + refusal_number s.0 = number ∙ ap (λ (v : Verdict (List ℕ)). call_number v (λ written. 0)) s.1 in
              found.answer ∙ ap answer_number (lent-stops s.1 room cell) ∙ omega arith;
          refusal_keeps = refusal;
          none-keeps = none;
          kept = kept;
        }

  pub evaluates_each : (x : Shape) (a : Result (Unit {0}) Refusal) (r : ℕ) (grades' work' : List ℕ) → Made bytes x → EvaluatedEach x net visits grades work a grades' work' → r ≡ outcome_number a
      → EvaluatesEach net bytes visits grades work r grades' work'
  evaluates_each x a r grades' work' made found number =
      let same : rows x ≡ lent bytes rows = made_lent bytes rows made in
      promised (number ∙ ap outcome_number found.answer ∙ reply_number_lem (λ written. tt) (λ u. 0) (rows x) ∙ ap (λ (v : Verdict (List ℕ)). call_number v (λ written. 0)) same)
      (found.grades-after ∙ ap (λ (v : Verdict (List ℕ)). grades_after v grades) same)
      (λ h. keeps a work work' found.refusal_keeps (omega arith)) found.none-keeps found.kept

  pub each-refuses : (q : Refusal) (r : ℕ) → shape_of_bytes bytes ≡ refused q → r ≡ 65536 + refusal_number q → EvaluatesEach net bytes visits grades work r grades work
  each-refuses q r e number =
      let same : refused q ≡ lent bytes rows = sym (lent-refused bytes e rows (λ y u. rw u)) in
      promised (number ∙ ap (λ (v : Verdict (List ℕ)). call_number v (λ written. 0)) same) (ap (λ (v : Verdict (List ℕ)). grades_after v grades) same) (λ h. refl) (λ h. (refl, refl)) past_same
