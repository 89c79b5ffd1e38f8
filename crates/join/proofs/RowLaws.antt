-- The rows of a join call: what stopped it, or what they let pass.
use Prim.Native.Nat.{ℕ, min}
use mathlib.Core.Path.{◌≡◌, refl, sym, ◌∙◌, ap}
use mathlib.Core.Bool.{Bool, true, false, ◌&&◌}
use mathlib.Core.List.{List, [], ◌∷◌}
use mathlib.Core.Logic.{◌↔◌}
use native.Mathlib.Omega.{arith}
use lib.Dec.{leb, ltb, leb→le, le→leb}
use Rattle.std.specs.Prelude.{Result, Ok, Err}
use Rattle.rules.specs.declared.Gate.{Gate}
use Rattle.rules.specs.declared.Refusal.{Refusal}
use Rattle.rules.specs.declared.Refusal.TheVariants.{ShapeRange, GradeLimits, Sets, NoJoin, ShortBuffer}
use Rattle.rules.specs.Bytes.{at, all}
use Rattle.rules.specs.Cell.{cells}
use Rattle.rules.specs.Verdict.{Verdict, accepted, refused, unless, outcome_of, roomy}
use Rattle.rules.specs.Limits.{Limits, limits_of, limits_sound}
use Rattle.rules.specs.Join.{sets_sound, join_exists, join_rows}
use Rattle.laws.proofs.TestLaws.{and_l, and_r, and_i, same_test, passes, passed}
use Rattle.laws.proofs.VerdictLaws.{refused-accepted, row_passed, same_stop, was_ok, was_err}
use Rattle.shape.specs.declared.Shape.{Shape}
use Rattle.shape.specs.Shapes.{cards_of, places_of, is_sound}
use Rattle.join.specs.Calls.{Offered}
use Rattle.join.specs.Steps.{Ready, Judgement}

-- the shortest of some buffers
abbrev pub shortest_of : ℕ → List ℕ → ℕ
shortest_of b [] = b
shortest_of b (c ∷ cs) = min b (shortest_of c cs)

roomy_shortest : (n b : ℕ) (bs : List ℕ) → roomy n (b ∷ bs) ≡ leb n (shortest_of b bs)
roomy_shortest n b [] = same_test _ _ (λ h. and_l (leb n b) true h) (λ h. and_i (leb n b) true h tt)
roomy_shortest n b (c ∷ cs) =
    ap (λ (q : Bool). leb n b && q) (roomy_shortest n c cs)
    ∙ same_test _ _
    (λ h. le→leb n _ (let p = leb→le n b (and_l (leb n b) (leb n (shortest_of c cs)) h) in let q = leb→le n (shortest_of c cs) (and_r (leb n b) (leb n (shortest_of c cs)) h) in omega arith))
    (λ h. let p = leb→le n _ h in and_i (leb n b) (leb n (shortest_of c cs)) (le→leb n b (omega arith)) (le→leb n (shortest_of c cs) (omega arith)))

-- rows 4, 10, 5 and 7, by their tests
abbrev four : Bool → Bool → Bool → Bool → Verdict Limits → Verdict Limits
four a b c d v = unless a ShapeRange (unless b ShortBuffer (unless c GradeLimits (unless d Sets v)))

-- the rows as a function tests them, by what is read off the shape
pub judged : {shape : Shape} {ks : List ℕ} {n : ℕ} {lower upper : List ℕ} {shortest s t : ℕ} {r : Result (Unit {0}) Refusal} → Ready shape ks n lower upper shortest
    → r ≡ outcome_of (four (is_sound shape) (leb n shortest) (all n (λ i. leb (at lower i) (at upper i) && ltb (at upper i) shape.m)) (sets_sound ks s t) (accepted (limits_of lower upper)))
    → Judgement shape (limits_of lower upper) s t shortest r
judged p e = let k = p.places in let i = p.count in record { answer = cc }

-- a call that is judged, b and bs being the lengths of its buffers
module _ {shape : Shape} {l : Limits} {s t shortest : ℕ} {r : Result (Unit {0}) Refusal} (j : Judgement shape l s t shortest r) (b : ℕ) (bs : List ℕ) (short : shortest ≡ shortest_of b bs) where
  answer : r ≡ outcome_of (four (is_sound shape) (roomy (cells (places_of shape)) (b ∷ bs)) (limits_sound (places_of shape) shape.m l) (sets_sound (places_of shape) s t) (accepted l))
  answer = let k = roomy_shortest (cells (places_of shape)) b bs in let i = j.answer in cc

  -- a row stops it, whatever the rows below would say
  pub stopped : {q : Refusal} → r ≡ Err q → (gate : Gate) (next : Verdict Limits) → join_rows shape.n (cards_of shape) shape.m (b ∷ bs) l gate s t next ≡ refused q
  stopped e gate next =
      same_stop (is_sound shape) ShapeRange
      (same_stop (roomy (cells (places_of shape)) (b ∷ bs)) ShortBuffer
      (same_stop (limits_sound (places_of shape) shape.m l) GradeLimits
      (same_stop (sets_sound (places_of shape) s t) Sets (λ h. refused-accepted (sym h)))))
      (was_err (λ l. tt) _ (sym e ∙ answer))

  pub offered : {u : Unit {0}} → r ≡ Ok u → Offered shape (b ∷ bs) l s t
  offered e =
      let v = was_ok (λ l. tt) _ (sym e ∙ answer) in
      let a = row_passed (is_sound shape) ShapeRange _ v.1 in
      let b = row_passed (roomy (cells (places_of shape)) (b ∷ bs)) ShortBuffer _ a.1 in
      let c = row_passed (limits_sound (places_of shape) shape.m l) GradeLimits _ b.1 in
      let d = row_passed (sets_sound (places_of shape) s t) Sets _ c.1 in
      record { sound = passes a.0; room = passes b.0; limits = passes c.0; sets = passes d.0 }

-- a call that they let pass: then row 8
module _ {shape : Shape} {lengths : List ℕ} {l : Limits} {s t : ℕ} (o : Offered shape lengths l s t) (gate : Gate) (next : Verdict Limits) where
  abbrev rows : Verdict Limits
  rows = join_rows shape.n (cards_of shape) shape.m lengths l gate s t next

  pub row-eight : {e : Bool} → join_exists gate (places_of shape) shape.m s t l ≡ e → rows ≡ unless e NoJoin next
  row-eight x =
      let a = passed (is_sound shape) o.sound in
      let b = passed (roomy (cells (places_of shape)) lengths) o.room in
      let c = passed (limits_sound (places_of shape) shape.m l) o.limits in
      let d = passed (sets_sound (places_of shape) s t) o.sets in
      cc

  -- refusal 8 is row 8's alone, where what is below does not refuse so
  pub refused-eight : (next ≡ refused NoJoin → ⊥) → (rows ≡ refused NoJoin) ↔ (join_exists gate (places_of shape) shape.m s t l ≡ false)
  refused-eight f = ((λ h. go (join_exists gate (places_of shape) shape.m s t l) (sym (row-eight refl) ∙ h)), row-eight)
    where
      go : (b : Bool) → unless b NoJoin next ≡ refused NoJoin → b ≡ false
      go true h = absurd (f h)
      go false h = refl
