-- The promises of the join calls, from what the parts of a call answer.
use Prim.Native.Nat.{ℕ, ◌+◌}
use mathlib.Core.Path.{◌≡◌, sym, ap, subst, ◌∙◌}
use mathlib.Core.List.{List}
use native.Mathlib.Omega.{arith}
use borrow.Author.Tests.{eq-eqb}
use lib.Dec.{T}
use lib.ListN.{length}
use Rattle.std.specs.Prelude.{Result, Ok, Err}
use Rattle.rules.specs.declared.Gate.{Gate}
use Rattle.rules.specs.declared.Refusal.{Refusal}
use Rattle.rules.specs.declared.Refusal.TheVariants.{NoJoin}
use Rattle.rules.specs.Refusal.{refusal_number}
use Rattle.rules.specs.Cell.{cells}
use Rattle.rules.specs.Limits.{Limits}
use Rattle.rules.specs.Verdict.{Verdict, refused}
use Rattle.shape.specs.declared.Shape.{Shape}
use Rattle.shape.specs.Shapes.{places_of, shape_of_bytes}
use Rattle.join.specs.Calls.{lower_after, upper_after, JoinCall, first_lengths, first_verdict, JoinFirst, second_lengths, second_verdict, JoinSecond}
use Rattle.panel_answers.specs.Answers.{lent_shape, lent, call_number, outcome_number}
use Rattle.panel_joins.specs.Joins.{Joined, JoinsFirst, JoinsSecond}
use Rattle.laws.proofs.RefusalLaws.{only_no_join}
use Rattle.panel_answers.proofs.ShapeLaws.{Made, FirstFour, ten_lent, unsound, lent-refused}
use Rattle.panel_answers.proofs.OutcomeLaws.{reply_number_lem, is-written}

-- by its number an answer is refusal 8, or that limits were written
is_no_join : (a : Result (Unit {0}) Refusal) → outcome_number a ≡ 65544 → a ≡ Err NoJoin
is_no_join (Ok u) e = absurd (omega arith)
is_no_join (Err q) e = ap Err (only_no_join q (omega arith))

module _ (gate : Gate) (bytes lower upper : List ℕ) (s t : ℕ) where
  module _ (rows : Shape → Verdict Limits) (lengths to_lower to_upper : List ℕ) (r : ℕ) where
    -- the shape is accepted
    accepted-joined : length bytes ≡ 10 → (Holds : Limits → Type 0) (a : Result (Unit {0}) Refusal) (to_lower' to_upper' : List ℕ)
        → JoinCall (lent_shape bytes) lower upper gate s t (rows (lent_shape bytes)) lengths Holds to_lower to_upper a to_lower' to_upper'
        → r ≡ outcome_number a → Joined gate bytes lower upper s t rows lengths to_lower to_upper r to_lower' to_upper'
    accepted-joined ten Holds a to_lower' to_upper' f number =
        let same : rows (lent_shape bytes) ≡ lent bytes rows = sym (ten_lent bytes rows ten) in
        record {
          answer = number ∙ ap outcome_number f.answer ∙ reply_number_lem (λ l. tt) (λ u. 0) (rows (lent_shape bytes)) ∙ ap (λ (v : Verdict Limits). call_number v (λ l. 0)) same;
          lower-after = f.lower-after ∙ ap (λ (v : Verdict Limits). lower_after v (cells (places_of (lent_shape bytes))) to_lower) same;
          upper-after = f.upper-after ∙ ap (λ (v : Verdict Limits). upper_after v (cells (places_of (lent_shape bytes))) to_upper) same;
          no_join = λ e offered. (
            λ h. (f.no_join offered).0 (is_no_join a (sym number ∙ h)),
            λ h. number ∙ ap outcome_number ((f.no_join offered).1 h),
          );
        }

    -- it is refused
    refused-joined : FirstFour rows → (q : Refusal) → shape_of_bytes bytes ≡ refused q → r ≡ 65536 + refusal_number q
        → Joined gate bytes lower upper s t rows lengths to_lower to_upper r to_lower to_upper
    refused-joined four q e number =
        let same : refused q ≡ lent bytes rows = sym (lent-refused bytes e rows four) in
        record {
          answer = number ∙ ap (λ (v : Verdict Limits). call_number v (λ l. 0)) same;
          lower-after = ap (λ (v : Verdict Limits). lower_after v (cells (places_of (lent_shape bytes))) to_lower) same;
          upper-after = ap (λ (v : Verdict Limits). upper_after v (cells (places_of (lent_shape bytes))) to_upper) same;
          no_join = λ ten offered. absurd (subst T (unsound bytes e (eq-eqb (length bytes) 10 ten)) offered.sound);
        }

  module _ (to_lower to_upper : List ℕ) (r : ℕ) where
    pub first-joins : (x : Shape) (a : Result (Unit {0}) Refusal) (to_lower' to_upper' : List ℕ) → Made bytes x → JoinFirst x lower upper gate s t to_lower to_upper a to_lower' to_upper' → r ≡ outcome_number a
        → JoinsFirst gate bytes lower upper s t to_lower to_upper r to_lower' to_upper'
    first-joins x a to_lower' to_upper' made found number =
        let f : JoinFirst (lent_shape bytes) lower upper gate s t to_lower to_upper a to_lower' to_upper' =
        subst (λ (y : Shape). JoinFirst y lower upper gate s t to_lower to_upper a to_lower' to_upper') made.same found in
        record {
          joined =
              accepted-joined (λ y. first_verdict y lower upper gate s t to_lower to_upper) (first_lengths (lent_shape bytes) lower upper gate s t to_lower to_upper) to_lower to_upper r
              made.ten _ a to_lower' to_upper' f number;
          exact = λ e. f.exact (is-written a (sym number ∙ e));
        }

    pub first-refuses : (q : Refusal) → shape_of_bytes bytes ≡ refused q → r ≡ 65536 + refusal_number q
        → JoinsFirst gate bytes lower upper s t to_lower to_upper r to_lower to_upper
    first-refuses q e number =
        record {
          joined =
              refused-joined (λ y. first_verdict y lower upper gate s t to_lower to_upper) (first_lengths (lent_shape bytes) lower upper gate s t to_lower to_upper) to_lower to_upper r
              (λ y u. rw u) q e number;
          exact = λ z. absurd (omega arith);
        }

  module _ (g to_lower to_upper : List ℕ) (r : ℕ) where
    pub second-joins : (x : Shape) (a : Result (Unit {0}) Refusal) (to_lower' to_upper' : List ℕ) → Made bytes x → JoinSecond x lower upper gate s t g to_lower to_upper a to_lower' to_upper' → r ≡ outcome_number a
        → JoinsSecond gate bytes lower upper s t g to_lower to_upper r to_lower' to_upper'
    second-joins x a to_lower' to_upper' made found number =
        let f : JoinSecond (lent_shape bytes) lower upper gate s t g to_lower to_upper a to_lower' to_upper' =
        subst (λ (y : Shape). JoinSecond y lower upper gate s t g to_lower to_upper a to_lower' to_upper') made.same found in
        record {
          joined =
              accepted-joined (λ y. second_verdict y lower upper gate s t g to_lower to_upper) (second_lengths (lent_shape bytes) lower upper gate s t g to_lower to_upper) to_lower to_upper r
              made.ten _ a to_lower' to_upper' f number;
          exact = λ e. f.exact (is-written a (sym number ∙ e));
        }

    pub second-refuses : (q : Refusal) → shape_of_bytes bytes ≡ refused q → r ≡ 65536 + refusal_number q
        → JoinsSecond gate bytes lower upper s t g to_lower to_upper r to_lower to_upper
    second-refuses q e number =
        record {
          joined =
              refused-joined (λ y. second_verdict y lower upper gate s t g to_lower to_upper) (second_lengths (lent_shape bytes) lower upper gate s t g to_lower to_upper) to_lower to_upper r
              (λ y u. rw u) q e number;
          exact = λ z. absurd (omega arith);
        }
