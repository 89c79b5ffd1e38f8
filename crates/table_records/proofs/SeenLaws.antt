-- The verdict on a record, test by test, and what the records so far keep.
use Prim.Native.Nat.{ℕ, zero, suc, ◌+◌, ◌-◌, ◌*◌, ◌≤◌, ◌<◌, max}
use mathlib.Core.Path.{◌≡◌, refl, sym, ◌∙◌, ap, subst}
use mathlib.Core.Bool.{Bool, true, false, not, cond, ◌&&◌}
use mathlib.Core.List.{List, [], ◌∷◌, ◌++◌}
use mathlib.Core.Logic.{⊎_elim}
use native.Mathlib.Nat.{mul_assoc, mul_comm, one-mul, not-suc-le-zero, le_of_suc-le-suc, eq-or-lt_of_le}
use native.Mathlib.Numerals.{add-one}
use native.Mathlib.Omega.{arith}
use borrow.Author.Tests.{eq-eqb, ne_eqb}
use lib.Dec.{T, T_not, eqb→eq, leb, ltb, eqb, leb→le, ltb→lt}
use lib.ListN.{length, set, replicate, length-set}
use lib.Seq.{get_or-set_same, get_or-set_other}
use Rattle.std.specs.Prelude.{Result, Ok, Err}
use Rattle.rules.specs.declared.Edition.{Edition}
use Rattle.rules.specs.declared.Edition.TheVariants.{Ours, Spreadsheet}
use Rattle.rules.specs.declared.Refusal.{Refusal}
use Rattle.rules.specs.declared.Refusal.TheVariants.{RecordBytes}
use Rattle.rules.specs.Bytes.{at, all, record_at, zeros}
use Rattle.rules.specs.Cell.{cells, card}
use Rattle.rules.specs.Shape.{places}
use Rattle.rules.specs.Verdict.{Verdict, accepted, refused, unless, and_then, granted, answer_of, verdict_of, says}
use Rattle.rules.specs.TableFile.{Seen, start, condition_record, grades_record, cell_kind, cell_clear, cell_sound, cell_record, listed_cell, table_record, table_records}
use Rattle.rules.specs.Editions.{other}
use Rattle.laws.proofs.TestLaws.{and_l, and_r, cond_ok}
use Rattle.laws.proofs.TableLaws.{all-at}
use Rattle.shape.specs.declared.Shape.{Shape}
use Rattle.shape.specs.Shapes.{shape_from, shape_bytes}
use Rattle.shape.proofs.ShapeLaws.{cards_from, from_cards}
use Rattle.table_records.specs.declared.Seen as declared
use Rattle.table_records.specs.Records.{seen_of, seen_bytes, seen_values, Judges, InRange}

-- what a struct says that was made of eight cardinalities
pub seen_from : (n : ℕ) (cards : List ℕ) (m next : ℕ) → length cards ≡ 8 → ◌≡◌ {A = Seen} (seen_of (record { shape = shape_from n cards m; next = next })) (record { n = n; cards = cards; m = m; next = next })
seen_from n cards m next e = ap (λ (l : List ℕ). record { n = n; cards = l; m = m; next = next }) (cards_from n cards m e)

-- the promise of a verdict on records, from the verdict
seen-says : (r : Result declared.Seen Refusal) → says seen_bytes r ≡ answer_of seen_values (verdict_of seen_of r)
seen-says (Ok s) = ap (λ (x : Shape). granted (shape_bytes x ++ (s.next ∷ []))) (sym (from_cards s.shape))
seen-says (Err q) = refl

pub judges : {v : Verdict Seen} {r : Result declared.Seen Refusal} → verdict_of seen_of r ≡ v → Judges v r
judges {v} {r} e = record { answer = e; means = seen-says r ∙ ap (answer_of seen_values) e }

module _ (s : Seen) (r : List ℕ) where
  pub record_by : (e : Edition) (a b c : Bool) → eqb (at r 0) 1 ≡ a → eqb (at r 0) 2 ≡ b → eqb (at r 0) (cell_kind e) ≡ c
      → table_record e s r ≡ cond a (condition_record s r) (cond b (grades_record s r) (cond c (cell_record e s r) (refused RecordBytes)))
  record_by e a b c p q t = cc

-- the kinds of cell records come after the others, and no kind is in both editions
pub late_kind : (e : Edition) → 3 ≤ cell_kind e
late_kind Ours = omega arith
late_kind Spreadsheet = omega arith

pub as_cell : (e : Edition) (s : Seen) (r : List ℕ) → at r 0 ≡ cell_kind e → table_record e s r ≡ cell_record e s r
as_cell e s r q = record_by s r e false false true (ne_eqb (at r 0) 1 (λ z. omega (arith, late_kind e))) (ne_eqb (at r 0) 2 (λ z. omega (arith, late_kind e))) (eq-eqb (at r 0) (cell_kind e) q)

two_kinds : (e : Edition) → cell_kind e ≡ cell_kind (other e) → ⊥
two_kinds Ours q = omega arith
two_kinds Spreadsheet q = omega arith

-- the first of the records that are left: what it refuses is refused, and what it accepts goes on to the rest
module _ (e : Edition) (file : List ℕ) (k n : ℕ) (s : Seen) (h : k < n) where
  records-next : table_records e file k (n - k) s ≡ and_then (table_record e s (record_at file k)) (table_records e file (k + 1) (n - (k + 1)))
  records-next =
      let q : n - k ≡ suc (n - (k + 1)) = omega arith in
      let f : suc k ≡ k + 1 = omega arith in
      ap (λ (i : ℕ). table_records e file k i s) q ∙ ap (λ (i : ℕ). and_then (table_record e s (record_at file k)) (table_records e file i (n - (k + 1)))) f

  pub records-refused : (q : Refusal) → refused q ≡ table_record e s (record_at file k) → refused q ≡ table_records e file k (n - k) s
  records-refused q v = ap (λ (x : Verdict Seen). and_then x (table_records e file (k + 1) (n - (k + 1)))) v ∙ sym records-next

  pub records-accepted : (t : Seen) → accepted t ≡ table_record e s (record_at file k) → table_records e file (k + 1) (n - (k + 1)) t ≡ table_records e file k (n - k) s
  records-accepted t v = ap (λ (x : Verdict Seen). and_then x (table_records e file (k + 1) (n - (k + 1)))) v ∙ sym records-next

-- one condition more multiplies the cells
places-set : (cards : List ℕ) (n k : ℕ) → n < length cards → at cards n ≡ 0 → 1 ≤ k → cells (places (set cards n k)) ≡ cells (places cards) * k
places-set [] n k h z p = absurd (not-suc-le-zero h)
places-set (c ∷ cs) zero k h z p =
    let a : max 1 k ≡ k = omega arith in
    let b : max 1 c ≡ 1 = omega arith in
    rw (a, b) (mul_comm k (cells (places cs)) ∙ ap (λ (x : ℕ). x * k) (sym (one-mul (cells (places cs)))))
places-set (c ∷ cs) (suc n) k h z p =
    ap (λ (x : ℕ). max 1 c * x) (places-set cs n k (le_of_suc-le-suc h) z p) ∙ sym (mul_assoc (max 1 c) (cells (places cs)) k)

at-zeros : (n i : ℕ) → at (replicate n 0) i ≡ 0
at-zeros zero i = refl
at-zeros (suc n) zero = refl
at-zeros (suc n) (suc i) = at-zeros n i

pub kept-start : InRange start
kept-start =
    record {
      eight = refl;
      conditions = omega arith;
      few = omega arith;
      here = λ i h. absurd (omega arith);
      beyond = λ i h. at-zeros 8 i;
      grades = λ n. absurd (n refl);
    }

-- a property of what a verdict accepts
abbrev Of : (Seen → Type 0) → Verdict Seen → Type 0
Of P (accepted s) = P s
Of P (refused q) = Unit {0}

row_of : (P : Seen → Type 0) (b : Bool) (q : Refusal) (v : Verdict Seen) → (T b → Of P v) → Of P (unless b q v)
row_of P true q v h = h tt
row_of P false q v h = tt

-- what one accepted record adds: conditions only before there are grades; a cell record comes after, is as its edition asks, and names a
-- cell above those before
pub record Step (e : Edition) (s : Seen) (r : List ℕ) (t : Seen) : Type 0 where
  pub kept : InRange t
  pub settled : (s.m ≡ 0 → ⊥) → (t.cards ≡ s.cards) × (t.m ≡ 0 → ⊥)
  pub same-grades : (s.m ≡ 0 → ⊥) → t.m ≡ s.m
  pub known : at r 0 ≡ cell_kind (other e) → ⊥
  pub cell : at r 0 ≡ cell_kind e → (s.m ≡ 0 → ⊥) × ((i : ℕ) → i < 8 → at r (8 + i) < card (places s.cards) i)
  pub clear : at r 0 ≡ cell_kind e → T (cell_clear e r)
  pub sound : at r 0 ≡ cell_kind e → T (cell_sound e s.m r)
  pub after : at r 0 ≡ cell_kind e → (s.next ≤ listed_cell (places s.cards) r) × (t.next ≡ listed_cell (places s.cards) r + 1)
  pub grows : s.next ≤ t.next

module _ (e : Edition) (s : Seen) (r : List ℕ) (k : InRange s) where
  kept_same : (m next : ℕ) → ((m ≡ 0 → ⊥) → (2 ≤ m) × (m ≤ 16)) → InRange (record { n = s.n; cards = s.cards; m = m; next = next })
  kept_same m next g = record { eight = k.eight; conditions = k.conditions; few = k.few; here = k.here; beyond = k.beyond; grades = g }

  abbrev one_more : Bool
  one_more = ltb s.n 8 && ((leb 2 (at r 2) && leb (at r 2) 8) && leb (cells (places s.cards) * at r 2) 1024)

  kept_more : T one_more → InRange (record { n = s.n + 1; cards = set s.cards s.n (at r 2); m = s.m; next = s.next })
  kept_more h =
      record {
        eight = length-set s.cards s.n (at r 2) ∙ k.eight;
        conditions = omega (arith, below);
        few = rw (places-set s.cards s.n (at r 2) (omega (arith, below, k.eight)) (k.beyond s.n (omega arith)) (omega (arith, two)))
            (leb→le _ 1024 (and_r (leb 2 (at r 2) && leb (at r 2) 8) (leb (cells (places s.cards) * at r 2) 1024) (and_r (ltb s.n 8) _ h)));
        here = λ i l.
            ⊎_elim (λ e. subst (λ (j : ℕ). (2 ≤ at (set s.cards s.n (at r 2)) j) × (at (set s.cards s.n (at r 2)) j ≤ 8)) (sym e) new)
            (λ lt. subst (λ (q : ℕ). (2 ≤ q) × (q ≤ 8)) (sym (get_or-set_other s.cards s.n i (at r 2) 0 (λ e. omega arith))) (k.here i lt))
            (eq-or-lt_of_le (le_of_suc-le-suc (subst (λ (q : ℕ). i < q) (add-one s.n) l)));
        beyond = λ i l. get_or-set_other s.cards s.n i (at r 2) 0 (λ e. omega arith) ∙ k.beyond i (omega arith);
        grades = k.grades;
      }
    where
      below : s.n < 8
      below = ltb→lt s.n 8 (and_l (ltb s.n 8) _ h)

      in_range : T (leb 2 (at r 2) && leb (at r 2) 8)
      in_range = and_l (leb 2 (at r 2) && leb (at r 2) 8) (leb (cells (places s.cards) * at r 2) 1024) (and_r (ltb s.n 8) _ h)

      two : 2 ≤ at r 2
      two = leb→le 2 (at r 2) (and_l (leb 2 (at r 2)) (leb (at r 2) 8) in_range)

      new : (2 ≤ at (set s.cards s.n (at r 2)) s.n) × (at (set s.cards s.n (at r 2)) s.n ≤ 8)
      new =
          let e : at (set s.cards s.n (at r 2)) s.n ≡ at r 2 = get_or-set_same s.cards s.n (at r 2) 0 (omega (arith, below, k.eight)) in
          subst (λ (q : ℕ). (2 ≤ q) × (q ≤ 8)) (sym e) (two, leb→le (at r 2) 8 (and_r (leb 2 (at r 2)) (leb (at r 2) 8) in_range))

  -- a record of kind i, which is no cell, before there are grades
  early_step : (i : ℕ) (t : Seen) → i < 3 → T (eqb (at r 0) i) → T (eqb s.m 0) → t.next ≡ s.next → InRange t → Step e s r t
  early_step i t h y z same kt =
      record {
        kept = kt;
        settled = λ n. absurd (n (eqb→eq s.m 0 z));
        same-grades = λ n. absurd (n (eqb→eq s.m 0 z));
        known = no_cell (other e);
        cell = λ c. absurd (no_cell e c);
        clear = λ c. absurd (no_cell e c);
        sound = λ c. absurd (no_cell e c);
        after = λ c. absurd (no_cell e c);
        grows = omega (arith, same);
      }
    where
      no_cell : (f : Edition) → at r 0 ≡ cell_kind f → ⊥
      no_cell f c = omega (arith, eqb→eq (at r 0) i y, late_kind f)

  abbrev values : Bool
  values = all 8 (λ i. ltb (at r (8 + i)) (card (places s.cards) i))

  abbrev rises : Bool
  rises = leb s.next (listed_cell (places s.cards) r)

  cell-step : T (eqb (at r 0) (cell_kind e)) → T (cell_clear e r && zeros r (8 + s.n) 16) → T (not (eqb s.m 0)) → T (values && rises) → T (cell_sound e s.m r)
      → Step e s r (record { n = s.n; cards = s.cards; m = s.m; next = listed_cell (places s.cards) r + 1 })
  cell-step y b z v d =
      record {
        kept = kept_same s.m _ k.grades;
        settled = λ n. (refl, n);
        same-grades = λ n. refl;
        known = λ q. two_kinds e (sym (eqb→eq (at r 0) (cell_kind e) y) ∙ q);
        cell = λ _. (
          (λ q. T_not (eqb s.m 0) z (subst (λ (n : ℕ). T (eqb n 0)) (sym q) tt)),
          (λ i h. ltb→lt _ _ (all-at 8 (λ i. ltb (at r (8 + i)) (card (places s.cards) i)) (and_l values rises v) i h)),
        );
        clear = λ _. and_l (cell_clear e r) (zeros r (8 + s.n) 16) b;
        sound = λ _. d;
        after = λ _. (above, refl);
        grows = omega (arith, above);
      }
    where
      above : s.next ≤ listed_cell (places s.cards) r
      above = leb→le _ _ (and_r values rises v)

  step_of : Of (Step e s r) (table_record e s r)
  step_of =
      cond_ok (Of (Step e s r)) (eqb (at r 0) 1) (condition_record s r) _
      (λ y.
      row_of (Step e s r) (zeros r 3 16) _ _
      (λ a.
      row_of (Step e s r) (eqb s.m 0 && eqb (at r 1) s.n) _ _
      (λ b. row_of (Step e s r) one_more _ _ (λ c. early_step 1 _ (omega arith) y (and_l (eqb s.m 0) _ b) refl (kept_more c)))))
      (λ n.
      cond_ok (Of (Step e s r)) (eqb (at r 0) 2) (grades_record s r) _
      (λ y.
      row_of (Step e s r) (zeros r 2 16) _ _
      (λ a.
      row_of (Step e s r) (eqb s.m 0) _ _
      (λ b. row_of (Step e s r) (leb 2 (at r 1) && leb (at r 1) 16) _ _ (λ c. early_step 2 _ (omega arith) y b refl (kept_same (at r 1) s.next (λ n. (leb→le 2 (at r 1) (and_l (leb 2 (at r 1)) (leb (at r 1) 16) c), leb→le (at r 1) 16 (and_r (leb 2 (at r 1)) (leb (at r 1) 16) c))))))))
      (λ n.
      cond_ok (Of (Step e s r)) (eqb (at r 0) (cell_kind e)) (cell_record e s r) (refused RecordBytes)
      (λ y.
      row_of (Step e s r) (cell_clear e r && zeros r (8 + s.n) 16) _ _
      (λ a.
      row_of (Step e s r) (not (eqb s.m 0)) _ _
      (λ b. row_of (Step e s r) (values && rises) _ _ (λ c. row_of (Step e s r) (cell_sound e s.m r) _ _ (λ d. cell-step y a b c d)))))
      (λ n. tt)))

  pub accepted-step : (t : Seen) → table_record e s r ≡ accepted t → Step e s r t
  accepted-step t q = subst (Of (Step e s r)) q step_of
