-- A record's sixteen bytes are that record again, and are not faulty; so for a network's bytes.
use Prim.Native.Nat.{ℕ, zero, suc, ◌+◌, ◌-◌, ◌*◌, ◌/◌, ◌%◌, ◌≤◌, ◌<◌}
use mathlib.Core.Path.{◌≡◌, refl, sym, ◌∙◌, ap, ap₂, subst}
use mathlib.Core.Bool.{◌&&◌}
use mathlib.Core.List.{List, [], ◌∷◌, ◌++◌, append_assoc}
use native.Mathlib.Nat.{add-zero, zero-add, mul-suc, mod-add-div, not-suc-le-zero, le_of_suc-le-suc, mul-div_right, mul-mod_right}
use native.Mathlib.Omega.{arith}
use borrow.Author.Tests.{eq-eqb}
use lib.Dec.{T, not_T, eqb, leb, ltb, ltb→lt, lt→ltb, nltb→le, le→leb}
use lib.ListN.{length, replicate, take, length-append, length-take, get_or-replicate, get_or-append}
use lib.Seq.{get_or-append-add, get_or-take}
use Rattle.laws.proofs.TestLaws.{and_i, cond_ok, passes}
use Rattle.laws.proofs.RecordLaws.{record_first, record_later}
use Rattle.laws.proofs.TableLaws.{all_of, tabulate_self}
use Rattle.laws.proofs.TreeLaws.{RecordOk, RecordsOk}
use Rattle.laws.proofs.CeilingLaws.{ceilings, ceilings_keep, ceilings-first}
use Rattle.rules.specs.declared.Gate.TheVariants.{Min, Max}
use Rattle.rules.specs.Bytes.{at, all, tabulate, record_at, Past}
use Rattle.rules.specs.Cell.{card, present}
use Rattle.rules.specs.Network.{combine, Record, constant, literal, gate, record_ceiling, record_bytes, network_bytes_from, network_bytes, record_of, records_from, network_records, literal_byte_sound, record_formed, ceiling_at, ceiling_sound, record_sound, network_sound, max_records}

-- a literal's bytes for its values
grade-byte : (i : ℕ) (gs : List ℕ) (top v : ℕ) → v < 8 → at (record_bytes (literal i gs) top) (8 + v) ≡ at (gs ++ replicate 8 0) v
grade-byte i gs top v h = get_or-append-add (1 ∷ i ∷ top ∷ replicate 5 0) (take 8 (gs ++ replicate 8 0)) v 0 ∙ get_or-take 8 (gs ++ replicate 8 0) v 0 h

pub grade-here : (gs : List ℕ) (v : ℕ) → v < length gs → at (gs ++ replicate 8 0) v ≡ at gs v
grade-here gs v h = get_or-append gs (replicate 8 0) 0 v h

pub grade_past : (gs : List ℕ) (v : ℕ) → length gs ≤ v → v < 8 → at (gs ++ replicate 8 0) v ≡ 0
grade_past gs v h l =
    let e : length gs + (v - length gs) ≡ v = omega arith in
    subst (λ (w : ℕ). at (gs ++ replicate 8 0) w ≡ 0) e
    (get_or-append-add gs (replicate 8 0) (v - length gs) 0 ∙ get_or-replicate 8 (v - length gs) 0 0 (omega arith))

pub length-record_bytes : (r : Record) (top : ℕ) → length (record_bytes r top) ≡ 16
length-record_bytes (constant q) top = refl
length-record_bytes (literal i gs) top =
    let e : length (take 8 (gs ++ replicate 8 0)) ≡ 8 = length-take 8 (gs ++ replicate 8 0) ∙ omega (arith, length-append gs (replicate 8 0)) in
    ap (λ (n : ℕ). suc (suc (suc (suc (suc (suc (suc (suc n)))))))) e
length-record_bytes (gate op l r) top = refl

ceiling_byte : (r : Record) (top : ℕ) → at (record_bytes r top) 2 ≡ top
ceiling_byte (constant q) top = refl
ceiling_byte (literal i gs) top = refl
ceiling_byte (gate op l r) top = refl

-- a gate's two numbers
word_bytes : (l : ℕ) → l % 256 + 256 * (l / 256) ≡ l
word_bytes l = mod-add-div l 256

words_below : (l r k : ℕ) → (l < k) × (r < k) → T (ltb (l % 256 + 256 * (l / 256)) k && ltb (r % 256 + 256 * (r / 256)) k)
words_below l r k h = rw (word_bytes l, word_bytes r) (and_i (ltb l k) (ltb r k) (lt→ltb l k h.0) (lt→ltb r k h.1))

module _ (ks : List ℕ) (few : (i : ℕ) → card ks i ≤ 8) (m k top : ℕ) where
  record_of-bytes : (r : Record) → RecordOk ks m k r → record_of ks (record_bytes r top) ≡ r
  record_of-bytes (constant q) h = refl
  record_of-bytes (literal i gs) h =
      ap (literal i)
      (subst (λ (n : ℕ). tabulate n (λ v. at (record_bytes (literal i gs) top) (8 + v)) ≡ gs) h.1
      (tabulate_self (λ v. at (record_bytes (literal i gs) top) (8 + v)) gs
      (λ v l. grade-byte i gs top v (omega (arith, few i, h.1)) ∙ grade-here gs v l)))
  record_of-bytes (gate Min l r) h = ap₂ (gate Min) (word_bytes l) (word_bytes r)
  record_of-bytes (gate Max l r) h = ap₂ (gate Max) (word_bytes l) (word_bytes r)

  record_formed-bytes : (r : Record) → RecordOk ks m k r → T (record_formed ks m k (record_bytes r top))
  record_formed-bytes (constant q) h = lt→ltb q m h
  record_formed-bytes (literal i gs) h =
      and_i (present ks i) _ h.0
      (all_of 8 (λ v. literal_byte_sound (card ks i) m v (at (record_bytes (literal i gs) top) (8 + v)))
      (λ v l.
      rw (grade-byte i gs top v l)
      (cond_ok T (ltb v (card ks i)) _ _
      (λ t. lt→ltb _ m (rw (grade-here gs v (omega (arith, ltb→lt v (card ks i) t, h.1))) (h.2 v)))
      (λ n. rw (grade_past gs v (omega (arith, h.1, nltb→le v (card ks i) (not_T (ltb v (card ks i)) n))) l) tt))))
  record_formed-bytes (gate Min l r) h = words_below l r k h
  record_formed-bytes (gate Max l r) h = words_below l r k h

-- a network's bytes, record by record
pub length-network_bytes_from : (done : List ℕ) (rs : List Record) → length (network_bytes_from done rs) ≡ 16 * length rs
length-network_bytes_from done [] = refl
length-network_bytes_from done (r ∷ rs) =
    let top : ℕ = record_ceiling (at done) r in
    length-append (record_bytes r top) (network_bytes_from (done ++ (top ∷ [])) rs)
    ∙ omega (arith, length-record_bytes r top, length-network_bytes_from (done ++ (top ∷ [])) rs, mul-suc 16 (length rs))

pub length-network_bytes : (rs : List Record) → length (network_bytes rs) ≡ 16 * length rs
length-network_bytes rs = length-network_bytes_from [] rs

pub network_bytes-append : (done : List ℕ) (xs ys : List Record) → network_bytes_from done (xs ++ ys) ≡ network_bytes_from done xs ++ network_bytes_from (ceilings done xs) ys
network_bytes-append done [] ys = refl
network_bytes-append done (x ∷ xs) ys =
    let top : ℕ = record_ceiling (at done) x in
    let more : List ℕ = done ++ (top ∷ []) in
    ap (λ (b : List ℕ). record_bytes x top ++ b) (network_bytes-append more xs ys)
    ∙ sym (append_assoc (record_bytes x top) (network_bytes_from more xs) (network_bytes_from (ceilings more xs) ys))

-- byte 2 of each record is its ceiling
pub ceilings-bytes : (done : List ℕ) (rs : List Record) (j : ℕ) → j < length rs → ceiling_at (network_bytes_from done rs) j ≡ at (ceilings done rs) (length done + j)
ceilings-bytes done [] j l = absurd (not-suc-le-zero l)
ceilings-bytes done (r ∷ rs) zero l =
    let top : ℕ = record_ceiling (at done) r in
    ap (λ (b : List ℕ). at b 2) (record_first (record_bytes r top) (network_bytes_from (done ++ (top ∷ [])) rs) (length-record_bytes r top))
    ∙ ceiling_byte r top
    ∙ sym (ap (at (ceilings done (r ∷ rs))) (add-zero (length done)) ∙ ceilings-first done r rs)
ceilings-bytes done (r ∷ rs) (suc j) l =
    let top : ℕ = record_ceiling (at done) r in
    let more : List ℕ = done ++ (top ∷ []) in
    let e : length more + j ≡ length done + suc j = omega (arith, length-append done (top ∷ [])) in
    ap (λ (b : List ℕ). at b 2) (record_later (record_bytes r top) (network_bytes_from more rs) j (length-record_bytes r top))
    ∙ ceilings-bytes more rs j (le_of_suc-le-suc l)
    ∙ ap (at (ceilings more rs)) e

module _ (ks : List ℕ) where
  from_later : (a net : List ℕ) (k n : ℕ) → length a ≡ 16 → records_from ks (a ++ net) (suc k) n ≡ records_from ks net k n
  from_later a net k zero e = refl
  from_later a net k (suc n) e =
      ap₂ (λ (x : Record) (l : List Record). x ∷ l) (ap (record_of ks) (record_later a net k e)) (from_later a net (suc k) n e)

  module _ (few : (i : ℕ) → card ks i ≤ 8) (m : ℕ) where
    from_bytes : (done : List ℕ) (k : ℕ) (rs : List Record) → RecordsOk ks m k rs → records_from ks (network_bytes_from done rs) 0 (length rs) ≡ rs
    from_bytes done k [] h = refl
    from_bytes done k (r ∷ rs) h =
        let top : ℕ = record_ceiling (at done) r in
        let more : List ℕ = done ++ (top ∷ []) in
        ap₂ (λ (x : Record) (l : List Record). x ∷ l)
        (ap (record_of ks) (record_first (record_bytes r top) (network_bytes_from more rs) (length-record_bytes r top)) ∙ record_of-bytes ks few m k top r h.0)
        (from_later (record_bytes r top) (network_bytes_from more rs) 0 (length rs) (length-record_bytes r top) ∙ from_bytes more (suc k) rs h.1)

    count-bytes : (rs : List Record) → length (network_bytes rs) / 16 ≡ length rs
    count-bytes rs = ap (λ (n : ℕ). n / 16) (length-network_bytes rs) ∙ mul-div_right (length rs) (omega arith)

    -- the records that evaluation reads are those that were written
    pub network_records-bytes : (rs : List Record) → RecordsOk ks m 0 rs → network_records ks (network_bytes rs) ≡ rs
    network_records-bytes rs h = ap (records_from ks (network_bytes rs) 0) (count-bytes rs) ∙ from_bytes [] 0 rs h

    -- a record's ceiling takes those of the records before it alone
    ceiling_same : (tops : ℕ → ℕ) (done : List ℕ) (r : Record) → RecordOk ks m (length done) r → ((j : ℕ) → j < length done → tops j ≡ at done j)
        → record_ceiling tops r ≡ record_ceiling (at done) r
    ceiling_same tops done (constant q) h e = refl
    ceiling_same tops done (literal i gs) h e = refl
    ceiling_same tops done (gate op l r) h e = ap₂ (combine op) (e l h.0) (e r h.1)

    -- records behind others whose ceilings are `done`, in a network whose bytes 2 are `tops`
    sound-bytes : (tops : ℕ → ℕ) (done : List ℕ) (rs : List Record) → RecordsOk ks m (length done) rs
        → ((j : ℕ) → j < length done + length rs → tops j ≡ at (ceilings done rs) j)
        → (j : ℕ) → j < length rs
        → T (record_formed ks m (length done + j) (record_at (network_bytes_from done rs) j))
        × (ceiling_at (network_bytes_from done rs) j ≡ record_ceiling tops (record_of ks (record_at (network_bytes_from done rs) j)))
    sound-bytes tops done [] h e j l = absurd (not-suc-le-zero l)
    sound-bytes tops done (r ∷ rs) h e zero l =
        let top : ℕ = record_ceiling (at done) r in
        let more : List ℕ = done ++ (top ∷ []) in
        rw (record_first (record_bytes r top) (network_bytes_from more rs) (length-record_bytes r top), add-zero (length done), record_of-bytes ks few m (length done) top r h.0, ceiling_byte r top) (
          record_formed-bytes ks few m (length done) top r h.0,
          sym (ceiling_same tops done r h.0 (λ j lt. e j (omega arith) ∙ ceilings_keep done (r ∷ rs) j lt)),
        )
    sound-bytes tops done (r ∷ rs) h e (suc j) l =
        let top : ℕ = record_ceiling (at done) r in
        let more : List ℕ = done ++ (top ∷ []) in
        let n : length more ≡ suc (length done) = omega (arith, length-append done (top ∷ [])) in
        let k : length more + j ≡ length done + suc j = omega arith in
        rw (record_later (record_bytes r top) (network_bytes_from more rs) j (length-record_bytes r top), ← k)
        (sound-bytes tops more rs (rw n h.1) (λ i lt. e i (omega arith)) j (le_of_suc-le-suc l))

    -- and none of them is faulty
    pub network_sound-bytes : (rs : List Record) → RecordsOk ks m 0 rs → 1 ≤ length rs → length rs ≤ max_records → T (network_sound ks m (network_bytes rs))
    network_sound-bytes rs h some few-records =
        let net = network_bytes rs in
        let n = length net in
        and_i (ltb 0 n && (eqb (n % 16) 0 && leb (n / 16) max_records)) (all (n / 16) (record_sound ks m net))
        (and_i (ltb 0 n) (eqb (n % 16) 0 && leb (n / 16) max_records) (lt→ltb 0 n (omega (arith, length-network_bytes rs)))
        (and_i (eqb (n % 16) 0) (leb (n / 16) max_records) (rw (length-network_bytes rs, mul-mod_right 16 (length rs)) tt)
        (rw (count-bytes rs) (le→leb (length rs) max_records few-records))))
        (rw (count-bytes rs)
        (all_of (length rs) (record_sound ks m net)
        (λ j l.
        let both = sound-bytes (ceiling_at net) [] rs h (λ i lt. ceilings-bytes [] rs i (omega arith) ∙ ap (at (ceilings [] rs)) (zero-add i)) j l in
        and_i (record_formed ks m j (record_at net j)) (ceiling_sound ks net j) (rw (zero-add j) at both.0) (passes (eq-eqb _ _ both.1)))))

-- bytes that stay
pub past_same : {n : ℕ} {w : List ℕ} → Past n w w
past_same = record { long = refl; rest = refl }

pub past_then : {n : ℕ} {a b c : List ℕ} → Past n a b → Past n b c → Past n a c
past_then p q = record { long = q.long ∙ p.long; rest = q.rest ∙ p.rest }
