-- 01, Tables and cells: table files. Records are judged one after the other, each by all of its rows of "Places where a call stops".
-- Request 6: files come in two editions, which differ in their cell records alone.
use Rattle.std.specs.Prelude.{ℕ, zero, suc, ◌+◌, ◌-◌, ◌*◌, ◌/◌, ◌%◌, ◌<◌, ◌≡◌, Bool, not, cond, ◌&&◌, List, leb, ltb, eqb, length, replicate, set}
use Rattle.rules.specs.declared.Edition.{Edition}
use Rattle.rules.specs.declared.Edition.TheVariants.{Ours, Spreadsheet}
use Rattle.rules.specs.declared.Refusal.{Refusal}
use Rattle.rules.specs.declared.Refusal.TheVariants.{FileLength, RecordBytes, RecordOrder, ShapeRange, GradeLimits, CellValues, ShortBuffer, GradeSet}
use Rattle.rules.specs.Bytes.{at, all, record_at, zeros, word}
use Rattle.rules.specs.Cell.{cells, card, number}
use Rattle.rules.specs.Shape.{max_conditions, max_cardinality, max_grades, max_cells, places}
use Rattle.rules.specs.Limits.{Limits}
use Rattle.rules.specs.GradeSet.{set_sound}
use Rattle.rules.specs.Verdict.{Verdict, accepted, refused, unless, and_then}

-- what the records so far say: n conditions with their cardinalities by place, 0 elsewhere; m grades, 0 before the grades record;
-- the number after that of the last cell
pub record Seen : Type 0 where
  pub n : ℕ
  pub cards : List ℕ
  pub m : ℕ
  pub next : ℕ

abbrev pub start : Seen
start = record { n = 0; cards = replicate 8 0; m = 0; next = 0 }

-- kind 1, a condition: before the grades record, and the next number
abbrev pub condition_record : Seen → List ℕ → Verdict Seen
condition_record s r =
    unless (zeros r 3 16) RecordBytes
    (unless (eqb s.m 0 && eqb (at r 1) s.n) RecordOrder
    (unless (ltb s.n max_conditions && ((leb 2 (at r 2) && leb (at r 2) max_cardinality) && leb (cells (places s.cards) * at r 2) max_cells)) ShapeRange
    (accepted (record { n = s.n + 1; cards = set s.cards s.n (at r 2); m = s.m; next = s.next }))))

-- kind 2, the grades: once
abbrev pub grades_record : Seen → List ℕ → Verdict Seen
grades_record s r =
    unless (zeros r 2 16) RecordBytes
    (unless (eqb s.m 0) RecordOrder
    (unless (leb 2 (at r 1) && leb (at r 1) max_grades) ShapeRange
    (accepted (record { n = s.n; cards = s.cards; m = at r 1; next = s.next }))))

-- the number of the cell that a cell record names, over the places ks
abbrev pub listed_cell : List ℕ → List ℕ → ℕ
listed_cell ks r = number ks (λ i. at r (8 + i))

-- what each edition has of its own. The kind of a cell record
abbrev pub cell_kind : Edition → ℕ
cell_kind Ours = 3
cell_kind Spreadsheet = 4

-- which of bytes 1 to 3 has no meaning: the limits stand in bytes 1 and 2, a set in bytes 2 and 3
abbrev pub spare_byte : Edition → ℕ
spare_byte Ours = 3
spare_byte Spreadsheet = 1

-- what is asked of a cell's grades: limits in order and below m, or a set that is not empty, has no gap, and holds grades below m
abbrev pub cell_sound : Edition → ℕ → List ℕ → Bool
cell_sound Ours m r = leb (at r 1) (at r 2) && ltb (at r 2) m
cell_sound Spreadsheet m r = set_sound m (word r 2)

-- and the row for that
abbrev pub cell_refusal : Edition → Refusal
cell_refusal Ours = GradeLimits
cell_refusal Spreadsheet = GradeSet

-- the bytes before the values that must be zero
abbrev pub cell_clear : Edition → List ℕ → Bool
cell_clear e r = eqb (at r (spare_byte e)) 0 && zeros r 4 8

-- a cell: after the grades record, its values below the cardinalities, its number above those before, its grades as the edition asks
abbrev pub cell_record : Edition → Seen → List ℕ → Verdict Seen
cell_record e s r =
    unless (cell_clear e r && zeros r (8 + s.n) 16) RecordBytes
    (unless (not (eqb s.m 0)) RecordOrder
    (unless (all 8 (λ i. ltb (at r (8 + i)) (card (places s.cards) i)) && leb s.next (listed_cell (places s.cards) r)) CellValues
    (unless (cell_sound e s.m r) (cell_refusal e)
    (accepted (record { n = s.n; cards = s.cards; m = s.m; next = listed_cell (places s.cards) r + 1 })))))

-- a record by its kind; the cell kind of the other edition is as unknown as any
abbrev pub table_record : Edition → Seen → List ℕ → Verdict Seen
table_record e s r =
    cond (eqb (at r 0) 1) (condition_record s r)
    (cond (eqb (at r 0) 2) (grades_record s r)
    (cond (eqb (at r 0) (cell_kind e)) (cell_record e s r)
    (refused RecordBytes)))

-- n records from record k on; after the last one there has been a grades record
abbrev pub table_records : Edition → List ℕ → ℕ → ℕ → Seen → Verdict Seen
table_records e file k zero s = unless (not (eqb s.m 0)) RecordOrder (accepted s)
table_records e file k (suc n) s = and_then (table_record e s (record_at file k)) (table_records e file (suc k) n)

-- one record for each cell, each condition and the grades, at most
abbrev pub max_file_length : ℕ
max_file_length = 16528

abbrev pub judge_file : Edition → List ℕ → Verdict Seen
judge_file e file =
    unless (ltb 0 (length file) && (eqb (length file % 16) 0 && leb (length file) max_file_length)) FileLength
    (table_records e file 0 (length file / 16) start)

-- the whole verdict on a file of ours, for limit buffers of the given lengths
abbrev pub judge_reading : List ℕ → ℕ → ℕ → Verdict Seen
judge_reading file lower upper =
    and_then (judge_file Ours file) (λ s. unless (leb (cells (places s.cards)) lower && leb (cells (places s.cards)) upper) ShortBuffer (accepted s))

-- the table t after one record: a cell record, of ours, lays its byte at place j over the cell that it names
abbrev pub laid_over : List ℕ → List ℕ → ℕ → List ℕ → List ℕ
laid_over r ks j t = cond (eqb (at r 0) 3) (set t (listed_cell ks r) (at r j)) t

-- after n records from record k on
abbrev pub listed_over : List ℕ → List ℕ → ℕ → ℕ → ℕ → List ℕ → List ℕ
listed_over file ks j k zero t = t
listed_over file ks j k (suc n) t = listed_over file ks j (suc k) n (laid_over (record_at file k) ks j t)

-- the limits of a cell that is not listed; by request 2, which takes the place of 01's 0, any grade but 0: a visit that nobody foresaw
-- leaves at least a plain line
abbrev pub unlisted_lower : Seen → ℕ
unlisted_lower s = 1

abbrev pub unlisted_upper : Seen → ℕ
unlisted_upper s = s.m - 1

-- the limits of an accepted file
abbrev pub file_limits : List ℕ → Seen → Limits
file_limits file s =
    record {
      lower = listed_over file (places s.cards) 1 0 (length file / 16) (replicate (cells (places s.cards)) (unlisted_lower s));
      upper = listed_over file (places s.cards) 2 0 (length file / 16) (replicate (cells (places s.cards)) (unlisted_upper s));
    }

-- What is claimed of the limits, cell by cell.

-- record k of the file lists cell c, over the places ks; no record does
abbrev pub Lists : List ℕ → List ℕ → ℕ → ℕ → Type 0
Lists file ks k c = (k < length file / 16) × (at (record_at file k) 0 ≡ 3) × (listed_cell ks (record_at file k) ≡ c)

abbrev pub Unlisted : List ℕ → List ℕ → ℕ → Type 0
Unlisted file ks c = (k : ℕ) → Lists file ks k c → ⊥

module _ (file : List ℕ) (s : Seen) where
  pub record AsListed (l : Limits) : Type 0 where
    -- a listed cell has the two grades of its record, whatever they are
    pub listed : (k c : ℕ) → Lists file (places s.cards) k c → (at l.lower c ≡ at (record_at file k) 1) × (at l.upper c ≡ at (record_at file k) 2)
    -- any other cell has 1 and m − 1
    pub unlisted : (c : ℕ) → c < cells (places s.cards) → Unlisted file (places s.cards) c → (at l.lower c ≡ 1) × (at l.upper c ≡ s.m - 1)
