-- The promises of the calls: demand 2 from the answer and the bytes that are written.
use Prim.Native.Nat.{ℕ, ◌*◌, ◌<◌}
use mathlib.Core.Path.{◌≡◌, sym, ◌∙◌, ap, refl}
use mathlib.Core.Bool.{Bool, true, false}
use mathlib.Core.List.{List, ◌++◌, [], ◌∷◌}
use mathlib.Core.Logic.Iff
use mathlib.Core.Logic.{◌↔◌}
use native.Mathlib.Omega.{arith}
use lib.ListN.{length, drop, get_or-append}
use Rattle.std.specs.Prelude.{Result, Ok, Err}
use Rattle.rules.specs.declared.Gate.{Gate}
use Rattle.rules.specs.declared.Gate.TheVariants.{Min, Max}
use Rattle.rules.specs.declared.Refusal.{Refusal}
use Rattle.rules.specs.declared.Refusal.TheVariants.{NoJoin, FirstBlock}
use Rattle.rules.specs.Bytes.{at}
use Rattle.rules.specs.Cell.{cells}
use Rattle.rules.specs.Verdict.{Verdict, accepted, refused, unless, answer_of, outcome_of, outcome_means}
use Rattle.rules.specs.Limits.{Limits, limits_of}
use Rattle.rules.specs.Join.{exchange_for, first_limits, second_limits, block_sound, join_rows}
use Rattle.rules.specs.Demands.{Inside}
use Rattle.laws.proofs.TableLaws.{length-tabulate_from}
use Rattle.laws.proofs.GateLaws.{first_good}
use Rattle.laws.proofs.JoinExactLaws.{join_exact}
use Rattle.laws.proofs.TestLaws.{passes}
use Rattle.laws.proofs.VerdictLaws.{refused-accepted, refused-same, err-ok, was_err, result-says}
use Rattle.shape.specs.declared.Shape.{Shape}
use Rattle.shape.specs.Shapes.{cards_of, places_of}
use Rattle.join_tables.specs.Parts.{Placed, First}
use Rattle.join_tables.proofs.BlindLaws.{block_blind, block_inside}
use Rattle.join.specs.Calls.{lower_after, upper_after, JoinCall, first_verdict, JoinFirst, second_verdict, JoinSecond}
use Rattle.join.specs.Steps.{Opens, Completes, Delivered}
use Rattle.join.proofs.RowLaws.{refused-eight}
use Rattle.join.proofs.CallLaws.{table, Call, size, exists, passed_eight, block, passed_nine}

-- limits with a grade for each of n cells: those of both blocks
abbrev Sized : ℕ → Limits → Type 0
Sized n l = (length l.lower ≡ n) × (length l.upper ≡ n)

exchange_sized : (op : Gate) (ks : List ℕ) (m : ℕ) (l : Limits) → Sized (cells ks) l → Sized (cells ks) (exchange_for op ks m l)
exchange_sized Max ks m l h = h
exchange_sized Min ks m l h = (length-tabulate_from _ 0 (cells ks), length-tabulate_from _ 0 (cells ks))

module _ (op : Gate) (ks : List ℕ) (m s t : ℕ) (l : Limits) where
  first_sized : Sized (cells ks) (first_limits op ks m s t l)
  first_sized = exchange_sized op ks m _ (length-tabulate_from _ 0 (cells ks), length-tabulate_from _ 0 (cells ks))

  second_sized : (g : List ℕ) → Sized (cells ks) (second_limits op ks m s t l g)
  second_sized g = exchange_sized op ks m _ (length-tabulate_from _ 0 (cells ks), length-tabulate_from _ 0 (cells ks))

-- limits at the front of two buffers hold the same functions
front : (ks : List ℕ) (l : Limits) → Sized (cells ks) l → (low high : List ℕ) {x y : List ℕ} → x ≡ l.lower ++ drop (cells ks) low → y ≡ l.upper ++ drop (cells ks) high
    → (f : ℕ → ℕ) → Inside ks (limits_of x y) f ↔ Inside ks l f
front ks l sized low high {x} {y} ex ey f = (
  (λ w c hc. let e = same c hc in let p = w c hc in (omega arith, omega arith)),
  (λ w c hc. let e = same c hc in let p = w c hc in (omega arith, omega arith)),
)
  where
    same : (c : ℕ) → c < cells ks → (at x c ≡ at l.lower c) × (at y c ≡ at l.upper c)
    same c hc = (
      ap (λ (z : List ℕ). at z c) ex ∙ get_or-append l.lower (drop (cells ks) low) 0 c (omega arith),
      ap (λ (z : List ℕ). at z c) ey ∙ get_or-append l.upper (drop (cells ks) high) 0 c (omega arith),
    )

-- limits that left a work buffer
written : (ks : List ℕ) {n : ℕ} → n ≡ cells ks → {w : List ℕ} (l : Limits) → Sized (cells ks) l → Placed w (4 * n) l n → {low high low' high' : List ℕ} → Delivered n w low high low' high'
    → (low' ≡ l.lower ++ drop (cells ks) low) × (high' ≡ l.upper ++ drop (cells ks) high)
written ks e l sized p {low} {high} d = (
  d.lower l p (sized.0 ∙ sym e) ∙ ap (λ (i : ℕ). l.lower ++ drop i low) e,
  d.upper l p (sized.1 ∙ sym e) ∙ ap (λ (i : ℕ). l.upper ++ drop i high) e,
)

-- refusal 8 is not row 9's
not_eight : (b : Bool) (l : Limits) → unless b FirstBlock (accepted l) ≡ refused NoJoin → ⊥
not_eight true l h = refused-accepted (sym h)
not_eight false l h = let e = refused-same h in let z : ◌≡◌ {A = ℕ} 0 1 = cc in omega arith

-- a call that goes on to `next` once row 8 lets it pass, by the verdict that it comes to
module _ {shape : Shape} {lower upper : List ℕ} {gate : Gate} {s t : ℕ} {lengths : List ℕ} {next v : Verdict Limits} {Holds : Limits → Type 0} {to_lower to_upper : List ℕ}
    (other : next ≡ refused NoJoin → ⊥) (e : join_rows shape.n (cards_of shape) shape.m lengths (limits_of lower upper) gate s t next ≡ v) where
  by_verdict : {r : Result (Unit {0}) Refusal} {to_lower' to_upper' : List ℕ} → r ≡ outcome_of v
      → to_lower' ≡ lower_after v (cells (places_of shape)) to_lower → to_upper' ≡ upper_after v (cells (places_of shape)) to_upper → (r ≡ Ok tt → Holds (limits_of to_lower' to_upper'))
      → JoinCall shape lower upper gate s t (join_rows shape.n (cards_of shape) shape.m lengths (limits_of lower upper) gate s t next) lengths Holds to_lower to_upper r to_lower' to_upper'
  by_verdict is low high exact =
      record {
        answer = is ∙ ap outcome_of (sym e);
        means = ap outcome_means is ∙ result-says (λ l. tt) (λ u. []) v ∙ ap (answer_of (λ l. [])) (sym e);
        lower-after = low ∙ ap (λ (w : Verdict Limits). lower_after w (cells (places_of shape)) to_lower) (sym e);
        upper-after = high ∙ ap (λ (w : Verdict Limits). upper_after w (cells (places_of shape)) to_upper) (sym e);
        no_join =
            λ o.
            let eight = refused-eight o gate next other in
            let none = (join_exact gate (places_of shape) shape.m s t (limits_of lower upper) (table o)).refused in
            (λ h. none.0 (eight.0 (e ∙ was_err (λ l. tt) v (sym h ∙ is))), λ h. is ∙ ap outcome_of (sym e ∙ eight.1 (none.1 h)));
        exact = exact;
      }

-- a row stops the call
pub stops : {shape : Shape} {lower upper : List ℕ} {gate : Gate} {s t : ℕ} {lengths : List ℕ} {next : Verdict Limits} {Holds : Limits → Type 0} {to_lower to_upper : List ℕ}
    {r : Result (Unit {0}) Refusal} {q : Refusal} → (next ≡ refused NoJoin → ⊥) → join_rows shape.n (cards_of shape) shape.m lengths (limits_of lower upper) gate s t next ≡ refused q → r ≡ Err q
    → JoinCall shape lower upper gate s t (join_rows shape.n (cards_of shape) shape.m lengths (limits_of lower upper) gate s t next) lengths Holds to_lower to_upper r to_lower to_upper
stops other e is = by_verdict other e is refl refl (λ h. err-ok (sym is ∙ h))

module _ {shape : Shape} {lower upper : List ℕ} {gate : Gate} {s t : ℕ} {to_lower to_upper : List ℕ} where
  -- the call for the first block
  pub first_stopped : {r : Result (Unit {0}) Refusal} {q : Refusal} → first_verdict shape lower upper gate s t to_lower to_upper ≡ refused q → r ≡ Err q
      → JoinFirst shape lower upper gate s t to_lower to_upper r to_lower to_upper
  first_stopped = stops (λ h. refused-accepted (sym h))

  pub first_written : {n : ℕ} {w w₁ w₂ ks : List ℕ} {r : Result (Unit {0}) Refusal} {u : Unit {0}} {to_lower' to_upper' : List ℕ}
      → (call : Call shape lower upper s t (length to_lower ∷ length to_upper ∷ []) ks n) → (o : Opens gate ks shape.m s t (limits_of lower upper) n w r w₁) → r ≡ Ok u
      → First gate ks shape.m t n w₁ w₂ → Delivered n w₂ to_lower to_upper to_lower' to_upper' → JoinFirst shape lower upper gate s t to_lower to_upper (Ok tt) to_lower' to_upper'
  first_written call o e f d =
      let y = f.limits s (limits_of lower upper) o.joining.opened in
      let x = join_exact gate (places_of shape) shape.m s t (limits_of lower upper) (table call.offered) in
      let sized = first_sized gate (places_of shape) shape.m s t (limits_of lower upper) in
      let k = written (places_of shape) (size call) _ sized (rw call.places at y) d in
      by_verdict (λ h. refused-accepted (sym h)) (passed_eight call o e _) refl k.0 k.1
      (λ h g grades blind. Iff.trans (front (places_of shape) _ sized to_lower to_upper k.0 k.1 g) (x.first-exact (passes (exists call o e)) g grades blind))

  -- the call for the second
  module _ (g : List ℕ) where
    pub second_stopped : {r : Result (Unit {0}) Refusal} {q : Refusal} → second_verdict shape lower upper gate s t g to_lower to_upper ≡ refused q → r ≡ Err q
        → JoinSecond shape lower upper gate s t g to_lower to_upper r to_lower to_upper
    second_stopped = stops (not_eight (block_sound (places_of shape) t (first_limits gate (places_of shape) shape.m s t (limits_of lower upper)) g) _)

  module _ {g : List ℕ} where
    pub second_written : {n : ℕ} {w w₁ w₂ ks : List ℕ} {r q : Result (Unit {0}) Refusal} {u v : Unit {0}} {to_lower' to_upper' : List ℕ}
        → (call : Call shape lower upper s t (length g ∷ length to_lower ∷ length to_upper ∷ []) ks n) → (o : Opens gate ks shape.m s t (limits_of lower upper) n w r w₁) → r ≡ Ok u
        → (c : Completes gate ks shape.m s t n g w₁ q w₂) → q ≡ Ok v → Delivered n w₂ to_lower to_upper to_lower' to_upper'
        → JoinSecond shape lower upper gate s t g to_lower to_upper (Ok tt) to_lower' to_upper'
    second_written call o e c f d =
        let l = limits_of lower upper in
        let y = c.limits l o.joining f in
        let x = join_exact gate (places_of shape) shape.m s t l (table call.offered) in
        let sized = second_sized gate (places_of shape) shape.m s t l g in
        let k = written (places_of shape) (size call) _ sized (rw call.places at y) d in
        let b = block call o c f in
        let i = block_inside (places_of shape) t (first_limits gate (places_of shape) shape.m s t l) g (passes b) in
        let ok = table call.offered in
        let good = first_good (places_of shape) shape.m s t gate l (record { room = ok.ordered; top = ok.top }) (passes (exists call o e)) in
        by_verdict (not_eight _ _) (passed_eight call o e _ ∙ passed_nine call o c f) refl k.0 k.1
        (λ h f grades blind.
        Iff.trans (front (places_of shape) _ sized to_lower to_upper k.0 k.1 f)
        (x.second-exact (passes (exists call o e)) g (λ c hc. let p = i c hc in omega (arith, good.top c hc))
        (block_blind (places_of shape) t (first_limits gate (places_of shape) shape.m s t l) g (passes b)) i f grades blind))
