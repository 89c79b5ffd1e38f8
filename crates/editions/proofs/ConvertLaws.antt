-- Records turned where they stand, one after the other, and the promise of the call, case by case.
use Prim.Native.Nat.{ℕ, zero, suc, ◌+◌, ◌-◌, ◌*◌, ◌/◌, ◌≤◌, ◌<◌}
use mathlib.Core.Path.{◌≡◌, refl, sym, ◌∙◌, ap, ap₂, subst}
use mathlib.Core.List.{List, [], ◌∷◌, ◌++◌, append_assoc}
use native.Mathlib.Omega.{arith}
use borrow.Rule.Slice.PartMut.{put_mid, Post-is}
use lib.Dec.{T, leb}
use Rattle.std.specs.Prelude.{Ok}
use lib.ListN.{length, take, drop, set}
use lib.Seq.{take_at, drop_at, take-length, drop-drop}
use Rattle.rules.specs.declared.Edition.{Edition}
use Rattle.rules.specs.declared.Edition.TheVariants.{Ours, Spreadsheet}
use Rattle.rules.specs.declared.Refusal.TheVariants.{ShortBuffer}
use Rattle.rules.specs.Bytes.{at, record_at, map_records, word}
use Rattle.rules.specs.Verdict.{Verdict, accepted, unless, and_then, answer_of, outcome_of}
use Rattle.rules.specs.TableFile.{Seen, cell_kind, cell_sound, judge_file}
use Rattle.rules.specs.Editions.{record_as_other, file_as_other, convert_call, Converted}
use Rattle.laws.proofs.VerdictLaws.{row_passed, then_passed, accepted-same, result-says, was_ok}
use Rattle.laws.proofs.GradeSetLaws.{span-some, sound_spans}
use Rattle.laws.proofs.RecordLaws.{record_length, record_front, map_next, map-length}
use Rattle.tables.specs.Part.{part}
use Rattle.table_file.proofs.FileLaws.{accepted_file, limits_in, all-records, few-grades}
use Rattle.editions.specs.Converting.{Turnable, AllTurnable, out_after, Converts}
use Rattle.editions.proofs.EditionLaws.{with_room, other_length, converted}

-- four bytes set at the front
pub four-sets : (r : List ℕ) (w x y z : ℕ) → 4 ≤ length r → set (set (set (set r 0 w) 1 x) 2 y) 3 z ≡ w ∷ x ∷ y ∷ z ∷ drop 4 r
four-sets [] w x y z h = absurd (omega arith)
four-sets (a ∷ []) w x y z h = absurd (omega arith)
four-sets (a ∷ b ∷ []) w x y z h = absurd (omega arith)
four-sets (a ∷ b ∷ c ∷ []) w x y z h = absurd (omega arith)
four-sets (a ∷ b ∷ c ∷ d ∷ r) w x y z h = refl

-- the first k records of a buffer are turned, and the rest is as it was
module _ (e : Edition) (w : List ℕ) where
  abbrev pub turned : ℕ → List ℕ
  turned k = map_records (record_as_other e) w 0 k

  turned-length : (k : ℕ) → 16 * k ≤ length w → length (turned k) ≡ 16 * k
  turned-length k h = map-length (record_as_other e) w 0 k (λ j a b. other_length e (record_at w j) (record_length w j (omega arith)))

  module _ (k : ℕ) (out : List ℕ) (is : out ≡ turned k ++ drop (16 * k) w) (room : 16 * k ≤ length w) where
    behind : drop (16 * k) out ≡ drop (16 * k) w
    behind = ap (drop (16 * k)) is ∙ drop_at (turned k) (drop (16 * k) w) (16 * k) (turned-length k room)

    pub next_record : record_at out k ≡ record_at w k
    next_record = ap (take 16) behind

    -- one more
    pub turned-next : (r : List ℕ) → r ≡ record_as_other e (record_at w k) → put_mid (16 * k) (16 * k + 16 - 16 * k) out r ≡ turned (k + 1) ++ drop (16 * (k + 1)) w
    turned-next r q =
        let a : 16 * k + 16 ≡ 16 * (k + 1) = omega arith in
        ap₂ (λ (x y : List ℕ). x ++ (r ++ y)) (ap (take (16 * k)) is ∙ take_at (turned k) (drop (16 * k) w) (16 * k) (turned-length k room))
        (Post-is (16 * k) (16 * k + 16) out (omega arith) ∙ sym (drop-drop 16 (16 * k) out) ∙ ap (drop 16) behind ∙ drop-drop 16 (16 * k) w ∙ ap (λ (i : ℕ). drop i w) a)
        ∙ sym (append_assoc (turned k) r (drop (16 * (k + 1)) w))
        ∙ ap (λ (x : List ℕ). x ++ drop (16 * (k + 1)) w) (ap (λ (x : List ℕ). turned k ++ x) q ∙ sym (map_next (record_as_other e) w k))

-- the first records of a buffer, each changed by f, are those of its front
map-front : (f : List ℕ → List ℕ) (file rest : List ℕ) (k n : ℕ) → 16 * (k + n) ≤ length file → map_records f (file ++ rest) k n ≡ map_records f file k n
map-front f file rest k zero h = refl
map-front f file rest k (suc n) h =
    ap₂ (λ (x y : List ℕ). f x ++ y) (record_front file rest k (omega arith)) (map-front f file rest (suc k) n (omega arith))

-- a file copied whole to a buffer's front
pub copied : (file rest : List ℕ) → part file 0 (length file) ++ rest ≡ file ++ rest
unfolding part
copied file rest = ap (λ (f : List ℕ). f ++ rest) (take-length file)

-- what reading accepts can be turned
turnable : (e : Edition) (m : ℕ) (r : List ℕ) → m ≤ 16 → T (cell_sound e m r) → Turnable e r
turnable Ours m r few h = let l = limits_in m r h in (l.0, omega (arith, l.1))
turnable Spreadsheet m r few h = let o = sound_spans m (word r 2) h in subst (λ (x : ℕ). 0 < x) (sym o.is) (span-some _ _ o.ordered)

module _ (e : Edition) (file : List ℕ) (s : Seen) (q : judge_file e file ≡ accepted s) where
  pub whole : 16 * (length file / 16) ≡ length file
  whole = all-records (accepted_file e file s q)

  -- it and what it is turned into, at a buffer's front
  pub all_turnable : (rest : List ℕ) → AllTurnable e (file ++ rest) (length file / 16)
  all_turnable rest k h =
      let a = accepted_file e file s q in
      subst (λ (r : List ℕ). at r 0 ≡ cell_kind e → Turnable e r) (sym (record_front file rest k (omega arith)))
      (λ y. turnable e s.m (record_at file k) (few-grades a) ((a.cells k h).sound y))

  pub turned_file : (rest : List ℕ) → map_records (record_as_other e) (file ++ rest) 0 (length file / 16) ++ drop (16 * (length file / 16)) (file ++ rest) ≡ file_as_other e file ++ rest
  turned_file rest =
      ap₂ (λ (x y : List ℕ). x ++ y) (map-front (record_as_other e) file rest 0 (length file / 16) (omega arith)) (drop_at file rest (16 * (length file / 16)) (sym whole))

module _ (e : Edition) (file out : List ℕ) (bytes : (j : ℕ) → at file j < 256) where
  accepted-converted : (turned : List ℕ) → convert_call e file (length out) ≡ accepted turned → Converted e file turned
  accepted-converted turned q =
      let p = then_passed (judge_file e file) (λ s. unless (leb (length file) (length out)) ShortBuffer (accepted (file_as_other e file))) q in
      let l = row_passed (leb (length file) (length out)) ShortBuffer (accepted (file_as_other e file)) p.2 in
      subst (Converted e file) (accepted-same l.1) (converted e file bytes p.0 p.1)

  at_front : (turned : List ℕ) → convert_call e file (length out) ≡ accepted turned → take (length file) (out_after (accepted turned) out) ≡ turned
  at_front turned q = take_at turned (drop (length turned) out) (length file) (accepted-converted turned q).as_long

  by_verdict : (v : Verdict (List ℕ)) → convert_call e file (length out) ≡ v → Converts e file out (outcome_of v) (out_after v out)
  by_verdict v q =
      record {
        answer = ap outcome_of (sym q);
        means = result-says (λ (turned : List ℕ). tt) (λ u. []) v ∙ ap (answer_of (λ (turned : List ℕ). [])) (sym q);
        out-after = ap (λ (w : Verdict (List ℕ)). out_after w out) (sym q);
        front = front;
        converted = λ z. let w = was_ok (λ (turned : List ℕ). tt) v (sym z) in subst (Converted e file) (sym (front w.0 (q ∙ w.1))) (accepted-converted w.0 (q ∙ w.1));
      }
    where
      front : (turned : List ℕ) → convert_call e file (length out) ≡ accepted turned → take (length file) (out_after v out) ≡ turned
      front turned z = ap (λ (w : Verdict (List ℕ)). take (length file) (out_after w out)) (sym q ∙ z) ∙ at_front turned z

  module _ (s : Seen) (q : judge_file e file ≡ accepted s) where
    pub convert_written : length file ≤ length out → (out' : List ℕ) → out' ≡ file_as_other e file ++ drop (length file) out → Converts e file out (Ok tt) out'
    convert_written h out' w =
        let v : convert_call e file (length out) ≡ accepted (file_as_other e file) = with_room e file (length out) h ∙ ap (λ (v : Verdict Seen). and_then v (λ t. accepted (file_as_other e file))) q in
        let c = accepted-converted (file_as_other e file) v in
        subst (Converts e file out (Ok tt)) (ap (λ (n : ℕ). file_as_other e file ++ drop n out) c.as_long ∙ sym w) (by_verdict (accepted (file_as_other e file)) v)
