-- 01, Networks: records, their bytes, which are faulty, and what the gates mean at a cell. Of any network, whoever made it.
-- Request 7: byte 2 of a record is its ceiling.
use Rattle.std.specs.Prelude.{ℕ, zero, suc, ◌+◌, ◌-◌, ◌/◌, ◌%◌, min, max, Bool, cond, ◌&&◌, ◌||◌, List, [], ◌∷◌, ◌++◌, leb, ltb, eqb, length, get_or, replicate, take}
use Rattle.rules.specs.declared.Gate.{Gate}
use Rattle.rules.specs.declared.Gate.TheVariants.{Min, Max}
use Rattle.rules.specs.Bytes.{at, tabulate, all, greatest, record_at, word}
use Rattle.rules.specs.Cell.{card, present, value}

-- a constant's grade; a literal's condition and its grade for each value; a gate's left and right record.
-- In the field: a literal is a multi-valued literal, any function of one variable; the gates have two inputs each
pub data Record : Type 0 where
  constant : ℕ → Record
  literal : ℕ → List ℕ → Record
  gate : Gate → ℕ → ℕ → Record

-- byte 0 of a gate's record
abbrev pub kind_of : Gate → ℕ
kind_of Min = 2
kind_of Max = 3

-- a gate of two grades
abbrev pub combine : Gate → ℕ → ℕ → ℕ
combine Min = min
combine Max = max

-- a record's ceiling, from the ceilings of other records by their numbers
abbrev pub record_ceiling : (ℕ → ℕ) → Record → ℕ
record_ceiling tops (constant q) = q
record_ceiling tops (literal i gs) = greatest gs
record_ceiling tops (gate op l r) = combine op (tops l) (tops r)

-- a record's sixteen bytes, with its ceiling
abbrev pub record_bytes : Record → ℕ → List ℕ
record_bytes (constant q) top = 0 ∷ q ∷ top ∷ replicate 13 0
record_bytes (literal i gs) top = 1 ∷ i ∷ top ∷ replicate 5 0 ++ take 8 (gs ++ replicate 8 0)
record_bytes (gate op l r) top = kind_of op ∷ 0 ∷ top ∷ 0 ∷ l % 256 ∷ l / 256 ∷ r % 256 ∷ r / 256 ∷ replicate 8 0

-- records in turn, behind others whose ceilings are `done`
abbrev pub network_bytes_from : List ℕ → List Record → List ℕ
network_bytes_from done [] = []
network_bytes_from done (r ∷ rs) = let top = record_ceiling (at done) r in record_bytes r top ++ network_bytes_from (done ++ (top ∷ [])) rs

-- record r at byte 16 × r
abbrev pub network_bytes : List Record → List ℕ
network_bytes rs = network_bytes_from [] rs

-- the record that sixteen bytes are, over the places ks
abbrev pub record_of : List ℕ → List ℕ → Record
record_of ks r =
    cond (eqb (at r 0) 0) (constant (at r 1))
    (cond (eqb (at r 0) 1) (literal (at r 1) (tabulate (card ks (at r 1)) (λ v. at r (8 + v))))
    (cond (eqb (at r 0) 2) (gate Min (word r 4) (word r 6))
    (gate Max (word r 4) (word r 6))))

-- n records from record k on
abbrev pub records_from : List ℕ → List ℕ → ℕ → ℕ → List Record
records_from ks net k zero = []
records_from ks net k (suc n) = record_of ks (record_at net k) ∷ records_from ks net (suc k) n

abbrev pub network_records : List ℕ → List ℕ → List Record
network_records ks net = records_from ks net 0 (length net / 16)

-- whether byte j means something in a record of a kind: all others are zero
abbrev pub named : ℕ → ℕ → Bool
named kind j =
    eqb j 0
    || (eqb j 2
    || cond (eqb kind 0) (eqb j 1)
    (cond (eqb kind 1) (eqb j 1 || leb 8 j)
    (leb 4 j && leb j 7)))

-- a literal's byte for the value v: a grade, or zero past the cardinality
abbrev pub literal_byte_sound : ℕ → ℕ → ℕ → ℕ → Bool
literal_byte_sound k m v q = cond (ltb v k) (ltb q m) (eqb q 0)

-- sixteen bytes are not faulty as record number k, with m grades, byte 2 aside
abbrev pub record_formed : List ℕ → ℕ → ℕ → List ℕ → Bool
record_formed ks m k r =
    ltb (at r 0) 4
    && (all 16 (λ j. named (at r 0) j || eqb (at r j) 0)
    && cond (eqb (at r 0) 0) (ltb (at r 1) m)
    (cond (eqb (at r 0) 1) (present ks (at r 1) && all 8 (λ v. literal_byte_sound (card ks (at r 1)) m v (at r (8 + v))))
    (ltb (word r 4) k && ltb (word r 6) k)))

-- byte 2 of record k
abbrev pub ceiling_at : List ℕ → ℕ → ℕ
ceiling_at net k = at (record_at net k) 2

-- it is the record's ceiling, by byte 2 of the records that it names
abbrev pub ceiling_sound : List ℕ → List ℕ → ℕ → Bool
ceiling_sound ks net k = eqb (ceiling_at net k) (record_ceiling (ceiling_at net) (record_of ks (record_at net k)))

-- record k of a network is not faulty
abbrev pub record_sound : List ℕ → ℕ → List ℕ → ℕ → Bool
record_sound ks m net k = record_formed ks m k (record_at net k) && ceiling_sound ks net k

abbrev pub max_records : ℕ
max_records = 4096

-- what row 11 of "Places where a call stops" lets pass
abbrev pub network_sound : List ℕ → ℕ → List ℕ → Bool
network_sound ks m net =
    (ltb 0 (length net) && (eqb (length net % 16) 0 && leb (length net / 16) max_records))
    && all (length net / 16) (record_sound ks m net)

-- the grade of a record where condition i has the value v i, from the grades of the records before it
abbrev pub record_grade : (ℕ → ℕ) → List ℕ → Record → ℕ
record_grade v done (constant q) = q
record_grade v done (literal i gs) = get_or gs (v i) 0
record_grade v done (gate op l r) = combine op (get_or done l 0) (get_or done r 0)

-- the grades of all records: those done, and the others in turn
abbrev pub run : (ℕ → ℕ) → List ℕ → List Record → List ℕ
run v done [] = done
run v done (r ∷ rs) = run v (done ++ (record_grade v done r ∷ [])) rs

-- the network's grade at a cell: its last record's
abbrev pub network_grade : List ℕ → List Record → ℕ → ℕ
network_grade ks rs c = let d = run (value ks c) [] rs in get_or d (length d - 1) 0

-- the grade of record k at a cell, from the network's bytes
abbrev pub record_grade_at : List ℕ → List ℕ → ℕ → ℕ → ℕ
record_grade_at ks net c k = at (run (value ks c) [] (network_records ks net)) k

-- the network's, from its bytes
abbrev pub evaluate : List ℕ → List ℕ → ℕ → ℕ
evaluate ks net c = network_grade ks (network_records ks net) c
