-- The numbers of what the calls answer, and of the verdicts behind them.
use Prim.Native.Nat.{ℕ}
use mathlib.Core.Path.{◌≡◌, refl}
use native.Mathlib.Omega.{arith}
use Rattle.std.specs.Prelude.{Result, Ok, Err}
use Rattle.rules.specs.declared.Refusal.{Refusal}
use Rattle.rules.specs.Verdict.{Verdict, accepted, refused, result_of, verdict_of}
use Rattle.panel_answers.specs.Answers.{call_number, reply_number, outcome_number}

-- the number of a verdict is that of the answer to it
pub reply_number_lem : {A B : Type 0} (value : A → B) (number : B → ℕ) (v : Verdict A) → reply_number (result_of value v) number ≡ call_number v (λ a. number (value a))
reply_number_lem value number (accepted a) = refl
reply_number_lem value number (refused q) = refl

-- and the number of an answer that of the verdict that it is
pub reply-verdict : {A B : Type 0} (value : A → B) (number : B → ℕ) (a : Result A Refusal) → reply_number a (λ x. number (value x)) ≡ call_number (verdict_of value a) number
reply-verdict value number (Ok a) = refl
reply-verdict value number (Err q) = refl

-- 0 is no refusal's
pub is-written : (a : Result (Unit {0}) Refusal) → outcome_number a ≡ 0 → a ≡ Ok tt
is-written (Ok u) e = refl
is-written (Err q) e = absurd (omega arith)
