-- What `grades_read` promises.
use Rattle.std.specs.Prelude.{ℕ, ◌≡◌, List, ◌++◌, leb, length, drop}
use Rattle.rules.specs.declared.Edition.TheVariants.{Ours}
use Rattle.rules.specs.declared.Refusal.TheVariants.{ShortBuffer}
use Rattle.rules.specs.Limits.{limits_of}
use Rattle.rules.specs.Verdict.{Verdict, accepted, refused, unless, and_then}
use Rattle.rules.specs.TableFile.{Seen, judge_file, judge_reading, AsListed}
use Rattle.shape.specs.Shapes.{shape_from, shape_bytes}
use Rattle.table_file.specs.Reading.{lower_after, upper_after}
use Rattle.panel_answers.specs.Answers.{call_number}

-- the rows of document 01 for reading, with the shape's buffer among those that may be too short; lengths of the three buffers
abbrev pub read_verdict : List ℕ → ℕ → ℕ → ℕ → Verdict Seen
read_verdict file shape lower upper = and_then (judge_reading file lower upper) (λ s. unless (leb 10 shape) ShortBuffer (accepted s))

-- what that is where the shape's buffer is too short, whatever the others are
abbrev pub no_room : List ℕ → Verdict Seen
no_room file = and_then (judge_file Ours file) (λ s. refused ShortBuffer)

-- the shape's buffer after it: ten bytes and what lay behind them, or all as it was
abbrev pub shape_after : Verdict Seen → List ℕ → List ℕ
shape_after (accepted s) shape = shape_bytes (shape_from s.n s.cards s.m) ++ drop 10 shape
shape_after (refused r) shape = shape

module _ (file shape lower upper : List ℕ) where
  abbrev verdict : Verdict Seen
  verdict = read_verdict file (length shape) (length lower) (length upper)

  -- the answer and every byte of the three buffers, for every file and all buffers
  pub record Reads (r : ℕ) (shape' lower' upper' : List ℕ) : Type 0 where
    pub answer : r ≡ call_number verdict (λ s. 0)
    pub shape-after : shape' ≡ shape_after verdict shape
    pub lower-after : lower' ≡ lower_after file verdict lower
    pub upper-after : upper' ≡ upper_after file verdict upper
    -- accepted, what was written is, cell by cell, what the file lists
    pub as_listed : (s : Seen) → verdict ≡ accepted s → AsListed file s (limits_of lower' upper')
