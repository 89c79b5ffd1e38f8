-- Request 6: a table file of ours turned into one of the spreadsheet's edition, and back.
use Rattle.std.specs.Prelude.{ℕ, ◌/◌, ◌%◌, ◌≤◌, ◌<◌, ◌≡◌, Bool, cond, ◌&&◌, List, ◌∷◌, leb, eqb, length, drop}
use Rattle.rules.specs.declared.Edition.{Edition}
use Rattle.rules.specs.declared.Edition.TheVariants.{Ours, Spreadsheet}
use Rattle.rules.specs.declared.Refusal.TheVariants.{ShortBuffer}
use Rattle.rules.specs.Bytes.{at, record_at, map_records, word}
use Rattle.rules.specs.Cell.{has}
use Rattle.rules.specs.GradeSet.{span, least_grade, greatest_grade}
use Rattle.rules.specs.TableFile.{cell_kind, judge_file}
use Rattle.rules.specs.Verdict.{Verdict, accepted, unless, and_then}

abbrev pub other : Edition → Edition
other Ours = Spreadsheet
other Spreadsheet = Ours

-- a cell record of an edition as one of the other: bytes 0 to 3 anew, a set with its low byte first; the rest stays
abbrev pub cell_as_other : Edition → List ℕ → List ℕ
cell_as_other Ours r = let s = span (at r 1) (at r 2) in 4 ∷ 0 ∷ s % 256 ∷ s / 256 ∷ drop 4 r
cell_as_other Spreadsheet r = let s = word r 2 in 3 ∷ least_grade s ∷ greatest_grade s ∷ 0 ∷ drop 4 r

-- any other record stays whole
abbrev pub record_as_other : Edition → List ℕ → List ℕ
record_as_other e r = cond (eqb (at r 0) (cell_kind e)) (cell_as_other e r) r

abbrev pub file_as_other : Edition → List ℕ → List ℕ
file_as_other e file = map_records (record_as_other e) file 0 (length file / 16)

-- the call, for the edition of the file that it is lent and the length of its output: it stops where reading a file of that edition does, and
-- last where the output is shorter than the file
abbrev pub convert_call : Edition → List ℕ → ℕ → Verdict (List ℕ)
convert_call e file room = and_then (judge_file e file) (λ s. unless (leb (length file) room) ShortBuffer (accepted (file_as_other e file)))

-- What is claimed.

-- whether a cell record allows its cell grade g
abbrev pub allows : Edition → List ℕ → ℕ → Bool
allows Ours r g = leb (at r 1) g && leb g (at r 2)
allows Spreadsheet r g = has (word r 2) g

-- of a file and what it was turned into
pub record Converted (e : Edition) (file turned : List ℕ) : Type 0 where
  pub as_long : length turned ≡ length file
  -- it is judged in the other edition as the file is in its own: the same conditions, grades and last cell
  pub accepts : judge_file (other e) turned ≡ judge_file e file
  -- the other direction, given room, makes it the file again
  pub back : (room : ℕ) → length file ≤ room → convert_call (other e) turned room ≡ accepted file
  -- a cell record stays one, in the other edition, and allows exactly the grades that it did
  pub cell_stays : (k : ℕ) → k < length file / 16 → at (record_at file k) 0 ≡ cell_kind e → at (record_at turned k) 0 ≡ cell_kind (other e)
  pub grades : (k g : ℕ) → k < length file / 16 → at (record_at file k) 0 ≡ cell_kind e → allows (other e) (record_at turned k) g ≡ allows e (record_at file k) g
  -- all values stay, and every other record
  pub values : (k j : ℕ) → k < length file / 16 → 8 ≤ j → at (record_at turned k) j ≡ at (record_at file k) j
  pub others : (k : ℕ) → k < length file / 16 → (at (record_at file k) 0 ≡ cell_kind e → ⊥) → record_at turned k ≡ record_at file k
