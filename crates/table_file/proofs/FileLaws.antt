-- What an accepted file says, of either edition: every cell record is as the edition asks, names a cell of the final shape, above those named
-- before it, and there are grades.
use Prim.Native.Nat.{ℕ, zero, suc, ◌+◌, ◌*◌, ◌/◌, ◌%◌, ◌≤◌, ◌<◌}
use mathlib.Core.Path.{◌≡◌, refl, sym, ◌∙◌, ap, subst}
use mathlib.Core.Bool.{Bool, not, ◌&&◌}
use mathlib.Core.List.{List}
use mathlib.Core.Logic.{⊎_elim}
use native.Mathlib.Nat.{eq-or-lt_of_le}
use native.Mathlib.Omega.{arith}
use lib.Dec.{T, T_not, leb, ltb, eqb, eqb→eq, leb→le, ltb→lt}
use lib.ListN.{length}
use Rattle.rules.specs.declared.Edition.{Edition}
use Rattle.rules.specs.declared.Edition.TheVariants.{Ours}
use Rattle.rules.specs.declared.Refusal.TheVariants.{FileLength, RecordOrder}
use Rattle.rules.specs.Bytes.{at, record_at}
use Rattle.rules.specs.Cell.{card}
use Rattle.rules.specs.Shape.{places}
use Rattle.rules.specs.Verdict.{accepted, unless}
use Rattle.rules.specs.TableFile.{Seen, start, listed_cell, cell_kind, cell_clear, cell_sound, table_record, table_records, max_file_length, judge_file}
use Rattle.rules.specs.Editions.{other}
use Rattle.laws.proofs.TestLaws.{and_l, and_r, passes}
use Rattle.laws.proofs.VerdictLaws.{accepted-same, row_passed, then_passed}
use Rattle.table_records.specs.Records.{InRange}
use Rattle.table_records.proofs.SeenLaws.{Step, accepted-step, kept-start}

-- what a record is in itself, with m grades: no cell of the other edition; and if it is a cell, its bytes zero that must be and its grades as
-- the edition asks
pub record CellIn (e : Edition) (m : ℕ) (r : List ℕ) : Type 0 where
  pub known : at r 0 ≡ cell_kind (other e) → ⊥
  pub clear : at r 0 ≡ cell_kind e → T (cell_clear e r)
  pub sound : at r 0 ≡ cell_kind e → T (cell_sound e m r)

-- the limits of a cell of ours
pub limits_in : (m : ℕ) (r : List ℕ) → T (cell_sound Ours m r) → (at r 1 ≤ at r 2) × (at r 2 < m)
limits_in m r h = (leb→le _ _ (and_l (leb (at r 1) (at r 2)) (ltb (at r 2) m) h), ltb→lt _ _ (and_r (leb (at r 1) (at r 2)) (ltb (at r 2) m) h))

module _ (e : Edition) (file : List ℕ) where
  -- record j is a cell record; the number of the cell that it then names, over a table's places
  abbrev IsCell : ℕ → Type 0
  IsCell j = at (record_at file j) 0 ≡ cell_kind e

  abbrev named : List ℕ → ℕ → ℕ
  named cards j = listed_cell (places cards) (record_at file j)

  -- the records from k on, n of them
  record Rest (k n : ℕ) (s t : Seen) : Type 0 where
    pub kept : InRange t
    pub grades : t.m ≡ 0 → ⊥
    pub settled : (s.m ≡ 0 → ⊥) → t.cards ≡ s.cards
    pub same-grades : (s.m ≡ 0 → ⊥) → t.m ≡ s.m
    pub listed : (j : ℕ) → k ≤ j → j < k + n → IsCell j → (i : ℕ) → i < 8 → at (record_at file j) (8 + i) < card (places t.cards) i
    pub cells : (j : ℕ) → k ≤ j → j < k + n → CellIn e t.m (record_at file j)
    pub above : (j : ℕ) → k ≤ j → j < k + n → IsCell j → s.next ≤ named t.cards j
    pub rising : (i j : ℕ) → k ≤ i → i < j → j < k + n → IsCell i → IsCell j → named t.cards i < named t.cards j

  rest_more : (k n : ℕ) (s u t : Seen) → Step e s (record_at file k) u → Rest (suc k) n u t → Rest k (suc n) s t
  rest_more k n s u t a r =
      record {
        kept = r.kept;
        grades = r.grades;
        settled = λ z. r.settled (a.settled z).1 ∙ (a.settled z).0;
        same-grades = λ z. r.same-grades (a.settled z).1 ∙ a.same-grades z;
        cells = λ j h l. ⊎_elim (λ q. subst (λ (i : ℕ). CellIn e t.m (record_at file i)) q cell-here) (λ lt. r.cells j lt (omega arith)) (eq-or-lt_of_le h);
        listed = λ j h l. ⊎_elim (λ q. subst (λ (x : ℕ). IsCell x → (i : ℕ) → i < 8 → at (record_at file x) (8 + i) < card (places t.cards) i) q here) (λ lt. r.listed j lt (omega arith)) (eq-or-lt_of_le h);
        above = λ j h l. ⊎_elim (λ q. subst (λ (i : ℕ). IsCell i → s.next ≤ named t.cards i) q above-here) (λ lt c. omega (arith, a.grows, r.above j lt (omega arith) c)) (eq-or-lt_of_le h);
        rising = λ i j h lt l. ⊎_elim (λ q. subst (λ (i : ℕ). IsCell i → IsCell j → named t.cards i < named t.cards j) q (rising-here j (omega arith) l)) (λ gt. r.rising i j gt lt (omega arith)) (eq-or-lt_of_le h);
      }
    where
      same-cards : IsCell k → t.cards ≡ s.cards
      same-cards y = let s' = a.settled (a.cell y).0 in r.settled s'.1 ∙ s'.0

      here : IsCell k → (i : ℕ) → i < 8 → at (record_at file k) (8 + i) < card (places t.cards) i
      here y i h = subst (λ (cards : List ℕ). at (record_at file k) (8 + i) < card (places cards) i) (sym (same-cards y)) ((a.cell y).1 i h)

      above-here : IsCell k → s.next ≤ named t.cards k
      above-here y = subst (λ (cards : List ℕ). s.next ≤ named cards k) (sym (same-cards y)) (a.after y).0

      rising-here : (j : ℕ) → k < j → j < k + suc n → IsCell k → IsCell j → named t.cards k < named t.cards j
      rising-here j h l y c = omega (arith, ap (λ (cards : List ℕ). named cards k) (same-cards y), (a.after y).1, r.above j h (omega arith) c)

      cell-here : CellIn e t.m (record_at file k)
      cell-here =
          record {
            known = a.known;
            clear = a.clear;
            sound = λ y. let z = (a.cell y).0 in subst (λ (m : ℕ). T (cell_sound e m (record_at file k))) (sym (r.same-grades (a.settled z).1 ∙ a.same-grades z)) (a.sound y);
          }

  rest-none : (k : ℕ) (s t : Seen) → InRange s → T (not (eqb s.m 0)) → s ≡ t → Rest k 0 s t
  rest-none k s t kept z same =
      subst (Rest k 0 s) same
      (record {
        kept = kept;
        grades = λ q. T_not (eqb s.m 0) z (subst (λ (n : ℕ). T (eqb n 0)) (sym q) tt);
        settled = λ n. refl;
        same-grades = λ n. refl;
        listed = λ j h l. absurd (omega arith);
        cells = λ j h l. absurd (omega arith);
        above = λ j h l. absurd (omega arith);
        rising = λ i j h lt l. absurd (omega arith);
      })

  rest : (k n : ℕ) (s t : Seen) → InRange s → table_records e file k n s ≡ accepted t → Rest k n s t
  rest k zero s t kept q =
      let p = row_passed (not (eqb s.m 0)) RecordOrder (accepted s) q in
      rest-none k s t kept (passes p.0) (accepted-same p.1)
  rest k (suc n) s t kept q =
      let p = then_passed (table_record e s (record_at file k)) (table_records e file (suc k) n) q in
      let a = accepted-step e s (record_at file k) kept p.0 p.1 in
      rest_more k n s p.0 t a (rest (suc k) n p.0 t a.kept p.2)

-- the verdict on a file, test by test
pub file_by : (e : Edition) (file : List ℕ) (a b c : Bool) → ltb 0 (length file) ≡ a → eqb (length file % 16) 0 ≡ b → leb (length file) max_file_length ≡ c
    → judge_file e file ≡ unless (a && (b && c)) FileLength (table_records e file 0 (length file / 16) start)
file_by e file a b c p q r = cc

-- an accepted file
pub record Accepted (e : Edition) (file : List ℕ) (s : Seen) : Type 0 where
  pub short : length file ≤ max_file_length
  pub whole : length file % 16 ≡ 0
  pub kept : InRange s
  pub grades : s.m ≡ 0 → ⊥
  pub listed : (k : ℕ) → k < length file / 16 → IsCell e file k → (i : ℕ) → i < 8 → at (record_at file k) (8 + i) < card (places s.cards) i
  pub cells : (k : ℕ) → k < length file / 16 → CellIn e s.m (record_at file k)
  pub rising : (i k : ℕ) → i < k → k < length file / 16 → IsCell e file i → IsCell e file k → named e file s.cards i < named e file s.cards k

pub accepted_file : (e : Edition) (file : List ℕ) (s : Seen) → judge_file e file ≡ accepted s → Accepted e file s
accepted_file e file s q =
    let n = length file in
    let p = row_passed (ltb 0 n && (eqb (n % 16) 0 && leb n max_file_length)) FileLength _ q in
    let sizes = and_r (ltb 0 n) (eqb (n % 16) 0 && leb n max_file_length) (passes p.0) in
    let r = rest e file 0 (n / 16) start s kept-start p.1 in
    record {
      short = leb→le n max_file_length (and_r (eqb (n % 16) 0) (leb n max_file_length) sizes);
      whole = eqb→eq (n % 16) 0 (and_l (eqb (n % 16) 0) (leb n max_file_length) sizes);
      kept = r.kept;
      grades = r.grades;
      listed = λ k h. r.listed k (omega arith) (omega arith);
      cells = λ k h. r.cells k (omega arith) (omega arith);
      rising = λ i k l h. r.rising i k (omega arith) l (omega arith);
    }

-- its records are all of it, and it has sixteen grades at most
module _ {e : Edition} {file : List ℕ} {s : Seen} (a : Accepted e file s) where
  pub all-records : 16 * (length file / 16) ≡ length file
  all-records = omega (arith, a.whole)

  pub few-grades : s.m ≤ 16
  few-grades = (a.kept.grades a.grades).1
