-- Verdicts: a row that was passed, one that stops a call; that no call is both accepted and refused, and no check both within and outside.
use Prim.Native.Nat.{ℕ}
use mathlib.Core.Path.{◌≡◌, refl, sym, ◌∙◌, ap}
use mathlib.Core.Bool.{Bool, true, false}
use mathlib.Core.List.{List}
use native.Mathlib.Omega.{arith}
use Rattle.std.specs.Prelude.{Result, Ok, Err}
use Rattle.std.specs.Result.{IsErrAnd}
use Rattle.std.proofs.lemmas.Result.{err_from_is_err_and}
use Rattle.rules.specs.declared.Refusal.{Refusal}
use Rattle.rules.specs.Verdict.{Verdict, accepted, refused, unless, and_then, result_of, verdict_of, outcome_of, says, answer_of}
use Rattle.rules.specs.NetworkCalls.{within, outside}

pub refused-accepted : {A P : Type 0} {q : Refusal} {x : A} → ◌≡◌ {A = Verdict A} (refused q) (accepted x) → P
refused-accepted e = let z : ◌≡◌ {A = ℕ} 0 1 = cc in absurd (omega arith)

pub outside-within : {P : Type 0} {c q : ℕ} → outside c q ≡ within → P
outside-within e = let z : ◌≡◌ {A = ℕ} 0 1 = cc in absurd (omega arith)

pub accepted-same : {A : Type 0} {x y : A} → ◌≡◌ {A = Verdict A} (accepted x) (accepted y) → x ≡ y
accepted-same e = cc

pub refused-same : {A : Type 0} {q r : Refusal} → ◌≡◌ {A = Verdict A} (refused q) (refused r) → q ≡ r
refused-same e = cc

-- a row whose test is known
pub row_pass : {A : Type 0} {b : Bool} (q : Refusal) (v : Verdict A) → b ≡ true → unless b q v ≡ v
row_pass q v e = ap (λ (b : Bool). unless b q v) e

pub row_stop : {A : Type 0} {b : Bool} (q : Refusal) (v : Verdict A) → b ≡ false → unless b q v ≡ refused q
row_stop q v e = ap (λ (b : Bool). unless b q v) e

-- a row that did not stop the call
pub row_passed : {A : Type 0} (b : Bool) (q : Refusal) (v : Verdict A) {x : A} → unless b q v ≡ accepted x → (b ≡ true) × (v ≡ accepted x)
row_passed true q v e = (refl, e)
row_passed false q v e = refused-accepted e

-- two calls with the same row: where what is below it stops both alike, so does the row with what is below it
pub same_stop : {A B : Type 0} (b : Bool) (q : Refusal) {v : Verdict A} {w : Verdict B} {r : Refusal} → (v ≡ refused r → w ≡ refused r) → unless b q v ≡ refused r → unless b q w ≡ refused r
same_stop true q f e = f e
same_stop false q f e = ap refused (refused-same e)

-- a second part that was accepted
pub then_passed : {A B : Type 0} (v : Verdict A) (f : A → Verdict B) {y : B} → and_then v f ≡ accepted y → (x : A) × (v ≡ accepted x) × (f x ≡ accepted y)
then_passed (accepted x) f e = (x, refl, e)
then_passed (refused q) f e = refused-accepted e

-- a last row that did not stop the call
pub last_passed : {A : Type 0} (v : Verdict A) (test : A → Bool) (q : Refusal) {x : A} → and_then v (λ y. unless (test y) q (accepted y)) ≡ accepted x → v ≡ accepted x
last_passed (accepted y) test q e = (row_passed (test y) q (accepted y) e).1
last_passed (refused p) test q e = refused-accepted e

-- three rows, and what is below them
pub below_rows : {A : Type 0} (a b d : Bool) (p q r : Refusal) (v : Verdict A) → unless a p (unless b q (unless d r v)) ≡ and_then (unless a p (unless b q (unless d r (accepted (tt {0}))))) (λ u. v)
below_rows true true true p q r v = refl
below_rows true true false p q r v = refl
below_rows true false d p q r v = refl
below_rows false b d p q r v = refl

-- what is answered, in 01's numbers: what comes of what is accepted says its values
pub result-says : {A B : Type 0} (value : A → B) (values : B → List ℕ) (v : Verdict A) → says values (result_of value v) ≡ answer_of (λ a. values (value a)) v
result-says value values (accepted a) = refl
result-says value values (refused q) = refl

-- what an answer says, by its verdict
pub says-verdict : {A B : Type 0} (value : A → B) (values : B → List ℕ) (answer : Result A Refusal) → says (λ a. values (value a)) answer ≡ answer_of values (verdict_of value answer)
says-verdict value values (Ok a) = refl
says-verdict value values (Err q) = refl

-- the verdict behind an answer
pub verdict-result : {A B C : Type 0} (value : A → B) (back : B → C) (v : Verdict A) → verdict_of back (result_of value v) ≡ and_then v (λ a. accepted (back (value a)))
verdict-result value back (accepted a) = refl
verdict-result value back (refused q) = refl

pub ok-err : {A E P : Type 0} {a : A} {e : E} → ◌≡◌ {A = Result A E} (Ok a) (Err e) → P
ok-err e = let z : ◌≡◌ {A = ℕ} 0 1 = cc in absurd (omega arith)

pub err-ok : {A E P : Type 0} {a : A} {e : E} → ◌≡◌ {A = Result A E} (Err e) (Ok a) → P
err-ok e = ok-err (sym e)

pub ok_same : {A E : Type 0} {x y : A} → ◌≡◌ {A = Result A E} (Ok x) (Ok y) → x ≡ y
ok_same e = cc

-- what a `?` hands on
pub handed_on : {A E : Type 0} {r : Result A E} {q : E} → IsErrAnd r (λ p. p ≡ q) → r ≡ Err q
handed_on {r = r} h = let p = err_from_is_err_and r h in p.1 ∙ ap Err p.2

pub was_ok : {A B : Type 0} (value : A → B) (v : Verdict A) {b : B} → Ok b ≡ result_of value v → (x : A) × (v ≡ accepted x)
was_ok value (accepted x) e = (x, refl)
was_ok value (refused q) e = ok-err e

pub was_err : {A B : Type 0} (value : A → B) (v : Verdict A) {q : Refusal} → Err q ≡ result_of value v → v ≡ refused q
was_err value (accepted x) e = err-ok e
was_err value (refused p) e = cc

-- a row that did not stop a function
pub row_ok : {A : Type 0} (b : Bool) (q : Refusal) (v : Verdict A) {r : Result (Unit {0}) Refusal} {u : Unit {0}} → r ≡ outcome_of (unless b q v) → r ≡ Ok u → b ≡ true
row_ok b q v is e = (row_passed b q v (was_ok (λ a. tt) _ (sym e ∙ is)).1).0
