-- 01, Places where a call stops: a call accepts, with what it then answers or writes, or refuses.
use Rattle.std.specs.Prelude.{ℕ, Bool, true, false, ◌&&◌, List, [], ◌∷◌, Result, Ok, Err, leb}
use Rattle.rules.specs.declared.Refusal.{Refusal}
use Rattle.rules.specs.Refusal.{refusal_number}

pub data Verdict (A : Type 0) : Type 0 where
  accepted : A → Verdict A
  refused : Refusal → Verdict A

-- one row: refused unless the test passes, and then the rows below it
abbrev pub unless : {A : Type 0} → Bool → Refusal → Verdict A → Verdict A
unless true q v = v
unless false q v = refused q

-- the rows of a second part, once the first is accepted
abbrev pub and_then : {A B : Type 0} → Verdict A → (A → Verdict B) → Verdict B
and_then (accepted a) f = f a
and_then (refused q) f = refused q

-- the number of a refusal, 0 where the call is accepted
abbrev pub verdict_number : {A : Type 0} → Verdict A → ℕ
verdict_number (accepted a) = 0
verdict_number (refused q) = refusal_number q

-- the answer to a verdict: what comes of what is accepted, or the refusal
abbrev pub result_of : {A B : Type 0} → (A → B) → Verdict A → Result B Refusal
result_of value (accepted a) = Ok (value a)
result_of value (refused q) = Err q

-- the verdict that an answer is
abbrev pub verdict_of : {A B : Type 0} → (A → B) → Result A Refusal → Verdict B
verdict_of value (Ok a) = accepted (value a)
verdict_of value (Err q) = refused q

-- what an answer says: 01's number of its refusal, 0 where the call is accepted, and the values that come with it
pub record Answer : Type 0 where
  pub number : ℕ
  pub values : List ℕ

abbrev pub granted : List ℕ → Answer
granted values = record { number = 0; values = values }

abbrev pub denied : Refusal → Answer
denied q = record { number = refusal_number q; values = [] }

-- the answer that a verdict asks for
abbrev pub answer_of : {A : Type 0} → (A → List ℕ) → Verdict A → Answer
answer_of values (accepted a) = granted (values a)
answer_of values (refused q) = denied q

-- what an answer says, by the values that come with what is accepted
abbrev pub says : {A : Type 0} → (A → List ℕ) → Result A Refusal → Answer
says values (Ok a) = granted (values a)
says values (Err q) = denied q

-- of a call whose result is in lent buffers
abbrev pub outcome_of : {A : Type 0} → Verdict A → Result (Unit {0}) Refusal
outcome_of = result_of (λ a. tt)

abbrev pub outcome_means : Result (Unit {0}) Refusal → Answer
outcome_means = says (λ u. [])

-- row 10: every lent buffer, by its length, holds n bytes
abbrev pub roomy : ℕ → List ℕ → Bool
roomy n [] = true
roomy n (b ∷ bs) = leb n b && roomy n bs
