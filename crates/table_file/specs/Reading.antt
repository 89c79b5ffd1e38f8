-- The answers of the code as the rules see them, and the promise of the reading call.
use Rattle.std.specs.Prelude.{ℕ, ◌+◌, ◌/◌, ◌<◌, ◌≤◌, ◌≡◌, List, ◌++◌, Result, length, drop}
use Rattle.rules.specs.declared.Refusal.{Refusal}
use Rattle.rules.specs.Bytes.{at, record_at}
use Rattle.rules.specs.Cell.{Positive, cells, card}
use Rattle.rules.specs.Shape.{places}
use Rattle.rules.specs.Limits.{limits_of}
use Rattle.rules.specs.Verdict.{Verdict, accepted, refused, result_of, says, answer_of}
use Rattle.rules.specs.TableFile as TableFile
use Rattle.rules.specs.TableFile.{judge_reading, file_limits, AsListed}
use Rattle.shape.specs.declared.Shape.{Shape}
use Rattle.shape.specs.Shapes.{shape_from, shape_bytes}

-- a record, if it is a cell record, names a cell of the places ks; so for every record of a file
abbrev pub RecordBelow : List ℕ → List ℕ → Type 0
RecordBelow r ks = at r 0 ≡ 3 → (i : ℕ) → i < 8 → at r (8 + i) < card ks i

abbrev pub ListedBelow : List ℕ → List ℕ → Type 0
ListedBelow file ks = (k : ℕ) → k < length file / 16 → RecordBelow (record_at file k) ks

-- two buffers with room for the limits of each cell of the places ks
pub record Room (ks lower upper : List ℕ) : Type 0 where
  pub some : Positive ks
  pub few : cells ks ≤ 1024
  pub low : cells ks ≤ length lower
  pub high : cells ks ≤ length upper

-- the shape that a file gives
abbrev pub shape_of : TableFile.Seen → Shape
shape_of s = shape_from s.n s.cards s.m

-- the two buffers after it: the table's limits and what lay behind them, or all as it was
abbrev pub lower_after : List ℕ → Verdict TableFile.Seen → List ℕ → List ℕ
lower_after file (accepted s) lower = (file_limits file s).lower ++ drop (cells (places s.cards)) lower
lower_after file (refused q) lower = lower

abbrev pub upper_after : List ℕ → Verdict TableFile.Seen → List ℕ → List ℕ
upper_after file (accepted s) upper = (file_limits file s).upper ++ drop (cells (places s.cards)) upper
upper_after file (refused q) upper = upper

-- the promise: the answer and every byte of both buffers, for every file and all buffers; in 01's numbers, a table is said by its shape's ten
-- bytes, its limits are in the two buffers
module _ (file lower upper : List ℕ) where
  abbrev verdict : Verdict TableFile.Seen
  verdict = judge_reading file (length lower) (length upper)

  pub record Read (r : Result Shape Refusal) (lower' upper' : List ℕ) : Type 0 where
    pub answer : r ≡ result_of shape_of verdict
    pub means : says shape_bytes r ≡ answer_of (λ s. shape_bytes (shape_of s)) verdict
    pub lower-after : lower' ≡ lower_after file verdict lower
    pub upper-after : upper' ≡ upper_after file verdict upper
    -- accepted, what was written is, cell by cell, what the file lists
    pub as_listed : (s : TableFile.Seen) → verdict ≡ accepted s → AsListed file s (limits_of lower' upper')
