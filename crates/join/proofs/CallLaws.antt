-- A call that rows 4, 10, 5 and 7 let pass.
use Prim.Native.Nat.{ℕ, ◌≤◌}
use mathlib.Core.Path.{◌≡◌, refl, sym, ◌∙◌, ap, subst}
use mathlib.Core.Bool.{true}
use mathlib.Core.List.{List, [], ◌∷◌}
use native.Mathlib.Omega.{arith}
use lib.Dec.{T, leb, leb→le}
use lib.ListN.{length}
use Rattle.std.specs.Prelude.{Result, Ok, Err}
use Rattle.rules.specs.declared.Gate.{Gate}
use Rattle.rules.specs.declared.Refusal.{Refusal}
use Rattle.rules.specs.declared.Refusal.TheVariants.{NoJoin, FirstBlock}
use Rattle.rules.specs.Cell.{cells}
use Rattle.rules.specs.Verdict.{Verdict, accepted, refused, unless, outcome_of, roomy}
use Rattle.rules.specs.Limits.{Limits, limits_of}
use Rattle.rules.specs.Join.{join_exists, first_limits, second_limits, block_sound, join_rows}
use Rattle.rules.specs.Demands.{Table}
use Rattle.laws.proofs.AcceptLaws.{accepted-table}
use Rattle.laws.proofs.TestLaws.{and_l, and_r}
use Rattle.laws.proofs.VerdictLaws.{refused-accepted, row_pass, row_ok, same_stop, was_err}
use Rattle.shape.specs.declared.Shape.{Shape}
use Rattle.shape.specs.Shapes.{cards_of, places_of}
use Rattle.shape.proofs.ShapeLaws.{eight-cards}
use Rattle.join.specs.Calls.{Offered}
use Rattle.join.specs.Steps.{Opening, Opens, Completes}
use Rattle.join.proofs.RowLaws.{row-eight}

pub table : {shape : Shape} {lengths : List ℕ} {l : Limits} {s t : ℕ} → Offered shape lengths l s t → Table (places_of shape) shape.m l
table {shape} {l = l} o = accepted-table shape.n (cards_of shape) shape.m (eight-cards shape) o.sound l o.limits

-- each buffer has n bytes
abbrev Fit : ℕ → List ℕ → Type 0
Fit n [] = Unit {0}
Fit n (b ∷ bs) = (n ≤ b) × Fit n bs

fit : (n : ℕ) (bs : List ℕ) → T (roomy n bs) → Fit n bs
fit n [] h = tt
fit n (b ∷ bs) h = (leb→le n b (and_l (leb n b) (roomy n bs) h), fit n bs (and_r (leb n b) (roomy n bs) h))

-- the call, with the lengths of its buffers but those of the limits, and what is read off its shape
pub record Call (shape : Shape) (lower upper : List ℕ) (s t : ℕ) (others ks : List ℕ) (n : ℕ) : Type 0 where
  pub places : ks ≡ places_of shape
  pub count : n ≡ cells ks
  pub offered : Offered shape (length lower ∷ length upper ∷ others) (limits_of lower upper) s t

module _ {shape : Shape} {lower upper : List ℕ} {s t : ℕ} {others ks : List ℕ} {n : ℕ} (call : Call shape lower upper s t others ks n) where
  pub size : n ≡ cells (places_of shape)
  size = call.count ∙ ap cells call.places

  pub fits : Fit n (length lower ∷ length upper ∷ others)
  fits = subst (λ (k : ℕ). Fit k (length lower ∷ length upper ∷ others)) (sym size) (fit (cells (places_of shape)) (length lower ∷ length upper ∷ others) call.offered.room)

  pub opening : {w : List ℕ} → 6144 ≤ length w → Opening ks shape.m n lower upper w
  opening room =
      let x : Table ks shape.m (limits_of lower upper) = rw call.places (table call.offered) in
      let e = call.count in
      let i = x.few-cells in
      record { table = x; count = e; low = fits.0; high = fits.1.0; room = omega arith }

  module _ {gate : Gate} {w w₁ : List ℕ} {r : Result (Unit {0}) Refusal} (o : Opens gate ks shape.m s t (limits_of lower upper) n w r w₁) where
    abbrev rows : Verdict Limits → Verdict Limits
    rows next = join_rows shape.n (cards_of shape) shape.m (length lower ∷ length upper ∷ others) (limits_of lower upper) gate s t next

    -- row 8, so all rows above it, by what opening the join answers
    eight : r ≡ outcome_of (unless (join_exists gate (places_of shape) shape.m s t (limits_of lower upper)) NoJoin (accepted (limits_of lower upper)))
    eight = let x = o.answer in rw call.places at x

    pub exists : {u : Unit {0}} → r ≡ Ok u → join_exists gate (places_of shape) shape.m s t (limits_of lower upper) ≡ true
    exists e = row_ok (join_exists gate (places_of shape) shape.m s t (limits_of lower upper)) NoJoin (accepted (limits_of lower upper)) eight e

    pub passed_eight : {u : Unit {0}} → r ≡ Ok u → (next : Verdict Limits) → rows next ≡ next
    passed_eight e next = row-eight call.offered gate next (exists e)

    pub stopped_eight : {q : Refusal} → r ≡ Err q → (next : Verdict Limits) → rows next ≡ refused q
    stopped_eight e next =
        row-eight call.offered gate next refl
        ∙ same_stop (join_exists gate (places_of shape) shape.m s t (limits_of lower upper)) NoJoin (λ h. refused-accepted (sym h)) (was_err (λ l. tt) _ (sym e ∙ eight))

    -- row 9, by what completing it does
    module _ {w₂ g : List ℕ} {p : Result (Unit {0}) Refusal} (c : Completes gate ks shape.m s t n g w₁ p w₂) where
      abbrev next : Verdict Limits
      next =
          unless (block_sound (places_of shape) t (first_limits gate (places_of shape) shape.m s t (limits_of lower upper)) g) FirstBlock
          (accepted (second_limits gate (places_of shape) shape.m s t (limits_of lower upper) g))

      nine : p ≡ outcome_of next
      nine = let x = c.answer (limits_of lower upper) o.joining in rw call.places at x

      pub block : {u : Unit {0}} → p ≡ Ok u → block_sound (places_of shape) t (first_limits gate (places_of shape) shape.m s t (limits_of lower upper)) g ≡ true
      block e = row_ok (block_sound (places_of shape) t (first_limits gate (places_of shape) shape.m s t (limits_of lower upper)) g) FirstBlock (accepted _) nine e

      pub passed_nine : {u : Unit {0}} → p ≡ Ok u → next ≡ accepted (second_limits gate (places_of shape) shape.m s t (limits_of lower upper) g)
      passed_nine e = row_pass FirstBlock (accepted _) (block e)

      pub stopped_nine : {q : Refusal} → p ≡ Err q → next ≡ refused q
      stopped_nine e = was_err (λ l. tt) _ (sym e ∙ nine)
