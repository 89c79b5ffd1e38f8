-- What is turned into the other edition is accepted there, and comes back as it was.
use Prim.Native.Nat.{ℕ, zero, suc, ◌+◌, ◌-◌, ◌*◌, ◌/◌, ◌%◌, ◌≤◌, ◌<◌}
use mathlib.Core.Path.{◌≡◌, refl, sym, ◌∙◌, ap, ap₂, subst}
use mathlib.Core.Bool.{Bool, true, false, not, cond, ◌&&◌}
use mathlib.Core.List.{List, [], ◌∷◌}
use native.Mathlib.Nat.{zero-add, mod-add-div}
use native.Mathlib.Omega.{arith}
use borrow.Author.Tests.{eq-eqb, ne_eqb, le-leb}
use lib.Dec.{T, eqb, eqb→eq, leb, ltb, le→leb, lt→ltb}
use lib.ListN.{length, drop, length-drop}
use lib.Seq.{take-length, get_or-take, get_or-drop, get_or-append-add}
use Rattle.rules.specs.declared.Edition.{Edition}
use Rattle.rules.specs.declared.Edition.TheVariants.{Ours, Spreadsheet}
use Rattle.rules.specs.declared.Refusal.TheVariants.{FileLength, RecordBytes, RecordOrder, CellValues, ShortBuffer}
use Rattle.rules.specs.Bytes.{at, all, record_at, zeros, word}
use Rattle.rules.specs.Cell.{card, number, has}
use Rattle.rules.specs.Shape.{places}
use Rattle.rules.specs.GradeSet.{span, least_grade, greatest_grade, set_sound}
use Rattle.rules.specs.Verdict.{Verdict, accepted, unless, and_then}
use Rattle.rules.specs.TableFile.{Seen, start, listed_cell, cell_kind, cell_clear, cell_sound, cell_refusal, cell_record, table_record, table_records, max_file_length, judge_file}
use Rattle.rules.specs.Editions.{other, cell_as_other, record_as_other, file_as_other, convert_call, allows, Converted}
use Rattle.laws.proofs.TestLaws.{passes, passed, and_l, and_r, and_i, and_both, by_equal}
use Rattle.laws.proofs.TableLaws.{all_same}
use Rattle.laws.proofs.UnionLaws.{digit_mod, digit_div}
use Rattle.laws.proofs.VerdictLaws.{row_passed, row_pass, then_passed}
use Rattle.laws.proofs.RecordLaws.{record_length, map-length, map_at, map_file}
use Rattle.laws.proofs.GradeSetLaws.{span-has, span-least, span-greatest, sound_spans, span-sound}
use Rattle.table_records.specs.Records.{InRange}
use Rattle.table_records.proofs.SeenLaws.{Step, accepted-step, kept-start, record_by, as_cell}
use Rattle.table_file.proofs.FileLaws.{CellIn, Accepted, accepted_file, limits_in, all-records, few-grades}

-- the call with room for the file
pub with_room : (e : Edition) (file : List ℕ) (room : ℕ) → length file ≤ room → convert_call e file room ≡ and_then (judge_file e file) (λ s. accepted (file_as_other e file))
with_room e file room h =
    ap (λ (b : Bool). and_then (judge_file e file) (λ (s : Seen). unless b ShortBuffer (accepted (file_as_other e file)))) (le-leb (length file) room h)

-- a record that is a cell of the edition, and one that is not
pub other-cell : (e : Edition) (r : List ℕ) → at r 0 ≡ cell_kind e → record_as_other e r ≡ cell_as_other e r
other-cell e r q = ap (λ (b : Bool). cond b (cell_as_other e r) r) (eq-eqb (at r 0) (cell_kind e) q)

pub other_plain : (e : Edition) (r : List ℕ) → (at r 0 ≡ cell_kind e → ⊥) → record_as_other e r ≡ r
other_plain e r q = ap (λ (b : Bool). cond b (cell_as_other e r) r) (ne_eqb (at r 0) (cell_kind e) q)

kind_turned : (e : Edition) (r : List ℕ) → at (cell_as_other e r) 0 ≡ cell_kind (other e)
kind_turned Ours r = refl
kind_turned Spreadsheet r = refl

cell-length : (e : Edition) (r : List ℕ) → length r ≡ 16 → length (cell_as_other e r) ≡ 16
cell-length Ours r h = omega (arith, length-drop 4 r)
cell-length Spreadsheet r h = omega (arith, length-drop 4 r)

pub other_length : (e : Edition) (r : List ℕ) → length r ≡ 16 → length (record_as_other e r) ≡ 16
other_length e r h = by_equal (at r 0) (cell_kind e) (λ q. ap length (other-cell e r q) ∙ cell-length e r h) (λ n. ap length (other_plain e r n) ∙ h)

-- a cell record keeps its bytes from byte 4 on
tail_at : (e : Edition) (r : List ℕ) (j : ℕ) → at (cell_as_other e r) (4 + j) ≡ at r (4 + j)
tail_at Ours r j = get_or-append-add (4 ∷ 0 ∷ span (at r 1) (at r 2) % 256 ∷ span (at r 1) (at r 2) / 256 ∷ []) (drop 4 r) j 0 ∙ get_or-drop 4 r j 0
tail_at Spreadsheet r j = get_or-append-add (3 ∷ least_grade (word r 2) ∷ greatest_grade (word r 2) ∷ 0 ∷ []) (drop 4 r) j 0 ∙ get_or-drop 4 r j 0

tail_same : (e : Edition) (r : List ℕ) (j : ℕ) → 4 ≤ j → at (cell_as_other e r) j ≡ at r j
tail_same e r j h = let q : 4 + (j - 4) ≡ j = omega arith in subst (λ (i : ℕ). at (cell_as_other e r) i ≡ at r i) q (tail_at e r (j - 4))

pub number_same : (ks : List ℕ) (v w : ℕ → ℕ) → ((i : ℕ) → v i ≡ w i) → number ks v ≡ number ks w
number_same [] v w h = refl
number_same (k ∷ ks) v w h = ap₂ (λ (a b : ℕ). a + k * b) (h 0) (number_same ks (λ i. v (suc i)) (λ i. w (suc i)) (λ i. h (suc i)))

-- so it is accepted in the other edition, where its grades are as that asks
module _ (e : Edition) (r : List ℕ) where
  abbrev turned : List ℕ
  turned = cell_as_other e r

  same : (j : ℕ) → 4 ≤ j → at r j ≡ at turned j
  same j h = sym (tail_same e r j h)

  zeros-same : (a b : ℕ) → 4 ≤ a → zeros r a b ≡ zeros turned a b
  zeros-same a b h = all_same (b - a) _ _ (λ j l. ap (λ (x : ℕ). eqb x 0) (same (a + j) (omega arith)))

  names : List ℕ → Seen → Bool
  names x s = all 8 (λ i. ltb (at x (8 + i)) (card (places s.cards) i)) && leb s.next (listed_cell (places s.cards) x)

  cell_same : (s : Seen) → listed_cell (places s.cards) r ≡ listed_cell (places s.cards) turned
  cell_same s = number_same (places s.cards) _ _ (λ i. same (8 + i) (omega arith))

  names_same : (s : Seen) → names r s ≡ names turned s
  unfolding names
  names_same s =
      ap₂ (λ (x : Bool) (y : ℕ). x && leb s.next y)
      (all_same 8 _ _ (λ i l. ap (λ (x : ℕ). ltb x (card (places s.cards) i)) (same (8 + i) (omega arith)))) (cell_same s)

  cell-accepted : (s t : Seen) → cell_record e s r ≡ accepted t → T (cell_clear (other e) turned) → T (cell_sound (other e) s.m turned) → cell_record (other e) s turned ≡ accepted t
  unfolding names
  cell-accepted s t q clear sound =
      let a = row_passed (cell_clear e r && zeros r (8 + s.n) 16) RecordBytes _ q in
      let b = row_passed (not (eqb s.m 0)) RecordOrder _ a.1 in
      let c = row_passed (names r s) CellValues _ b.1 in
      let d = row_passed (cell_sound e s.m r) (cell_refusal e) _ c.1 in
      let behind : zeros turned (8 + s.n) 16 ≡ true = sym (zeros-same (8 + s.n) 16 (omega arith)) ∙ passed (zeros r (8 + s.n) 16) (and_r (cell_clear e r) (zeros r (8 + s.n) 16) (passes a.0)) in
      row_pass RecordBytes _ (and_both (passed (cell_clear (other e) turned) clear) behind)
      ∙ row_pass RecordOrder _ b.0
      ∙ row_pass CellValues _ (sym (names_same s) ∙ c.0)
      ∙ row_pass (cell_refusal (other e)) _ (passed (cell_sound (other e) s.m turned) sound)
      ∙ ap (λ (x : ℕ). accepted (record { n = s.n; cards = s.cards; m = s.m; next = x + 1 })) (sym (cell_same s))
      ∙ d.1

-- what a cell record that reading accepts is turned into
record Turned (e : Edition) (m : ℕ) (r : List ℕ) : Type 0 where
  clear : T (cell_clear (other e) (cell_as_other e r))
  sound : T (cell_sound (other e) m (cell_as_other e r))
  back : cell_as_other (other e) (cell_as_other e r) ≡ r
  grades : (g : ℕ) → allows (other e) (cell_as_other e r) g ≡ allows e r g

module _ (m : ℕ) (few : m ≤ 16) (a b c d : ℕ) (rest : List ℕ) where
  abbrev r : List ℕ
  r = a ∷ b ∷ c ∷ d ∷ rest

  ours_turned : a ≡ 3 → T (eqb d 0 && zeros r 4 8) → T (leb b c && ltb c m) → Turned Ours m r
  ours_turned kind clear sound =
      let x : ℕ = span b c in
      let l = limits_in m r sound in
      let ordered : b ≤ c = l.0 in
      let below : c < m = l.1 in
      let w : x % 256 + 256 * (x / 256) ≡ x = mod-add-div x 256 in
      record {
        clear = and_r (eqb d 0) (zeros r 4 8) clear;
        sound = subst (λ (y : ℕ). T (set_sound m y)) (sym w) (span-sound m b c ordered below few);
        back =
            ap (λ (y : ℕ). 3 ∷ least_grade y ∷ greatest_grade y ∷ 0 ∷ rest) w
            ∙ ap₂ (λ (l u : ℕ). 3 ∷ l ∷ u ∷ 0 ∷ rest) (span-least b c ordered (omega arith)) (span-greatest b c ordered (omega arith))
            ∙ ap₂ (λ (k y : ℕ). k ∷ b ∷ c ∷ y ∷ rest) (sym kind) (sym (eqb→eq d 0 (and_l (eqb d 0) (zeros r 4 8) clear)));
        grades = λ g. ap (λ (y : ℕ). has y g) w ∙ span-has b c g;
      }

  sheet_turned : c < 256 → a ≡ 4 → T (eqb b 0 && zeros r 4 8) → T (set_sound m (c + 256 * d)) → Turned Spreadsheet m r
  sheet_turned byte kind clear sound =
      let x : ℕ = c + 256 * d in
      let l : ℕ = least_grade x in
      let u : ℕ = greatest_grade x in
      let o = sound_spans m x sound in
      record {
        clear = and_r (eqb b 0) (zeros r 4 8) clear;
        sound = and_i (leb l u) (ltb u m) (le→leb l u o.ordered) (lt→ltb u m o.below);
        back =
            ap (λ (y : ℕ). 4 ∷ 0 ∷ y % 256 ∷ y / 256 ∷ rest) (sym o.is)
            ∙ ap₂ (λ (y z : ℕ). 4 ∷ 0 ∷ y ∷ z ∷ rest) (digit_mod 256 c d byte) (digit_div 256 c d byte)
            ∙ ap₂ (λ (k y : ℕ). k ∷ y ∷ c ∷ d ∷ rest) (sym kind) (sym (eqb→eq b 0 (and_l (eqb b 0) (zeros r 4 8) clear)));
        grades = λ g. sym (ap (λ (y : ℕ). has y g) o.is ∙ span-has l u g);
      }

turn : (e : Edition) (m : ℕ) (r : List ℕ) → m ≤ 16 → length r ≡ 16 → at r 2 < 256 → CellIn e m r → at r 0 ≡ cell_kind e → Turned e m r
turn e m [] few h byte i q = absurd (omega arith)
turn e m (a ∷ []) few h byte i q = absurd (omega arith)
turn e m (a ∷ b ∷ []) few h byte i q = absurd (omega arith)
turn e m (a ∷ b ∷ c ∷ []) few h byte i q = absurd (omega arith)
turn Ours m (a ∷ b ∷ c ∷ d ∷ rest) few h byte i q = ours_turned m few a b c d rest q (i.clear q) (i.sound q)
turn Spreadsheet m (a ∷ b ∷ c ∷ d ∷ rest) few h byte i q = sheet_turned m few a b c d rest byte q (i.clear q) (i.sound q)

-- there and back, whatever the record's kind
record_back : (e : Edition) (m : ℕ) (r : List ℕ) → m ≤ 16 → length r ≡ 16 → at r 2 < 256 → CellIn e m r → record_as_other (other e) (record_as_other e r) ≡ r
record_back e m r few h byte i =
    by_equal (at r 0) (cell_kind e)
    (λ q. ap (record_as_other (other e)) (other-cell e r q) ∙ other-cell (other e) (cell_as_other e r) (kind_turned e r) ∙ (turn e m r few h byte i q).back)
    (λ n. ap (record_as_other (other e)) (other_plain e r n) ∙ other_plain (other e) r i.known)

-- a record that reading accepts in one edition it accepts in the other, turned
module _ (e : Edition) (s t : Seen) (r : List ℕ) (kept : InRange s) (h : length r ≡ 16) (byte : at r 2 < 256) (q : table_record e s r ≡ accepted t) where
  step : Step e s r t
  step = accepted-step e s r kept t q

  -- a cell record comes after the grades record
  few : at r 0 ≡ cell_kind e → s.m ≤ 16
  few y = (kept.grades (step.cell y).0).1

  cell_other : at r 0 ≡ cell_kind e → table_record (other e) s (cell_as_other e r) ≡ accepted t
  cell_other y =
      let u = turn e s.m r (few y) h byte (record { known = step.known; clear = step.clear; sound = step.sound }) y in
      as_cell (other e) s (cell_as_other e r) (kind_turned e r) ∙ cell-accepted e r s t (sym (as_cell e s r y) ∙ q) u.clear u.sound

  plain_other : (at r 0 ≡ cell_kind e → ⊥) → table_record (other e) s r ≡ accepted t
  plain_other n =
      record_by s r (other e) _ _ false refl refl (ne_eqb _ _ step.known)
      ∙ sym (record_by s r e _ _ false refl refl (ne_eqb _ _ n))
      ∙ q

  accepted-other : table_record (other e) s (record_as_other e r) ≡ accepted t
  accepted-other =
      by_equal (at r 0) (cell_kind e)
      (λ y. ap (table_record (other e) s) (other-cell e r y) ∙ cell_other y)
      (λ n. ap (table_record (other e) s) (other_plain e r n) ∙ plain_other n)

module _ (e : Edition) (file : List ℕ) (bytes : (j : ℕ) → at file j < 256) where
  abbrev count : ℕ
  count = length file / 16

  abbrev out : List ℕ
  out = file_as_other e file

  long : (k : ℕ) → k < count → length (record_at file k) ≡ 16
  long k h = record_length file k (omega arith)

  byte : (k : ℕ) → at (record_at file k) 2 < 256
  byte k = rw (get_or-take 16 (drop (16 * k) file) 2 0 (omega arith), get_or-drop (16 * k) file 2 0) (bytes (16 * k + 2))

  each_long : (k : ℕ) → k < count → length (record_as_other e (record_at file k)) ≡ 16
  each_long k h = other_length e (record_at file k) (long k h)

  at_out : (k : ℕ) → k < count → record_at out k ≡ record_as_other e (record_at file k)
  at_out k h = map_at (record_as_other e) file 0 count k (λ j a b. each_long j (omega arith)) h ∙ ap (λ (i : ℕ). record_as_other e (record_at file i)) (zero-add k)

  -- all records, from any on
  all-accepted : (k n : ℕ) (s t : Seen) → InRange s → k + n ≤ count → table_records e file k n s ≡ accepted t → table_records (other e) out k n s ≡ accepted t
  all-accepted k zero s t kept h q = q
  all-accepted k (suc n) s t kept h q =
      let p = then_passed (table_record e s (record_at file k)) (table_records e file (suc k) n) q in
      let one = ap (table_record (other e) s) (at_out k (omega arith)) ∙ accepted-other e s p.0 (record_at file k) kept (long k (omega arith)) (byte k) p.1 in
      ap (λ (v : Verdict Seen). and_then v (table_records (other e) out (suc k) n)) one
      ∙ all-accepted (suc k) n p.0 t (accepted-step e s (record_at file k) kept p.0 p.1).kept (omega arith) p.2

  module _ (s : Seen) (q : judge_file e file ≡ accepted s) where
    file_accepted : Accepted e file s
    file_accepted = accepted_file e file s q

    turned-at : (k : ℕ) → k < count → at (record_at file k) 0 ≡ cell_kind e → Turned e s.m (record_at file k)
    turned-at k h y = turn e s.m (record_at file k) (few-grades file_accepted) (long k h) (byte k) (file_accepted.cells k h) y

    as_long : length out ≡ length file
    as_long = map-length (record_as_other e) file 0 count (λ j a b. each_long j (omega arith)) ∙ all-records file_accepted

    sizes : Bool
    sizes = ltb 0 (length file) && (eqb (length file % 16) 0 && leb (length file) max_file_length)

    accepts : judge_file (other e) out ≡ accepted s
    unfolding sizes
    accepts =
        let p = row_passed sizes FileLength _ q in
        rw as_long (row_pass FileLength (table_records (other e) out 0 count start) p.0 ∙ all-accepted 0 count start s kept-start (omega arith) p.1)

    comes_back : file_as_other (other e) out ≡ file
    comes_back =
        rw as_long
        (map_file (record_as_other (other e)) out file 0 count
        (λ j a b. ap (record_as_other (other e)) (at_out j (omega arith)) ∙ record_back e s.m (record_at file j) (few-grades file_accepted) (long j (omega arith)) (byte j) (file_accepted.cells j (omega arith)))
        ∙ rw (all-records file_accepted) (take-length file))

    -- the values of a cell record stay, and every other record whole
    values-at : (k j : ℕ) → k < count → 8 ≤ j → at (record_as_other e (record_at file k)) j ≡ at (record_at file k) j
    values-at k j h l =
        let r : List ℕ = record_at file k in
        by_equal (at r 0) (cell_kind e)
        (λ y. ap (λ (x : List ℕ). at x j) (other-cell e r y) ∙ tail_same e r j (omega arith))
        (λ n. ap (λ (x : List ℕ). at x j) (other_plain e r n))

    pub converted : Converted e file (file_as_other e file)
    converted =
        record {
          as_long = as_long;
          accepts = accepts ∙ sym q;
          back = λ room h.
              with_room (other e) out room (omega (arith, as_long))
              ∙ ap (λ (v : Verdict Seen). and_then v (λ t. accepted (file_as_other (other e) out))) accepts
              ∙ ap accepted comes_back;
          cell_stays = λ k h y. ap (λ (x : List ℕ). at x 0) (at_out k h ∙ other-cell e (record_at file k) y) ∙ kind_turned e (record_at file k);
          grades = λ k g h y. ap (λ (x : List ℕ). allows (other e) x g) (at_out k h ∙ other-cell e (record_at file k) y) ∙ (turned-at k h y).grades g;
          values = λ k j h l. ap (λ (x : List ℕ). at x j) (at_out k h) ∙ values-at k j h l;
          others = λ k h n. at_out k h ∙ other_plain e (record_at file k) n;
        }
