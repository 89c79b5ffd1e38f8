-- From a table file to a grade: what holds of a C program that reads a file, compiles the table that it holds, and evaluates the network at a
-- cell or at a list of them, or checks it; and of a forecast of that table.
-- Of each call nothing is used but its promise.
use Rattle.std.specs.Prelude.{ℕ, ◌*◌, ◌≤◌, ◌<◌, ◌≡◌, List, length, take}
use Rattle.rules.specs.declared.Edition.TheVariants.{Ours}
use Rattle.rules.specs.declared.Settings.{Settings}
use Rattle.rules.specs.Bytes.{at, word}
use Rattle.rules.specs.Cell.{cells}
use Rattle.rules.specs.Shape.{places}
use Rattle.rules.specs.Verdict.{accepted}
use Rattle.rules.specs.TableFile.{Seen, judge_file, file_limits, Unlisted}
use Rattle.rules.specs.Network.{network_records}
use Rattle.rules.specs.CompileCall.{most_records, compile_work}
use Rattle.rules.specs.Forecast.{network_depth}
use Rattle.rules.specs.Demands.{Between}
use Rattle.panel_answers.specs.Answers.{lent_cells}
use Rattle.panel_reads.specs.Reads.{Reads}
use Rattle.panel_networks.specs.Compiles.{Compiles}
use Rattle.panel_networks.specs.Forecasts.{Forecasts}
use Rattle.panel_networks.specs.Checks.{Checks}
use Rattle.panel_networks.specs.Evaluates.{Evaluates}
use Rattle.panel_networks.specs.EvaluatesEach.{EvaluatesEach}

-- what is asked of a grade at a cell of the table that a file holds
pub record Obeys (file : List ℕ) (table : Seen) (cell grade : ℕ) : Type 0 where
  -- it is within the file's limits of that cell
  pub within : Between (file_limits file table) cell grade
  -- and never 0 where the file does not list the cell: a visit that nobody foresaw leaves a line
  pub unforeseen : Unlisted file (places table.cards) cell → 1 ≤ grade

-- what reading has written: ten bytes of shape and the limits; and what compiling these has: n records at the front of the network buffer
module _ (how : Settings) (file shape lower upper : List ℕ) (n : ℕ) (network : List ℕ) where
  abbrev pub shape_lent : List ℕ
  shape_lent = take 10 shape

  abbrev pub network_lent : List ℕ
  network_lent = take (16 * n) network

  pub record Followed : Type 0 where
    -- the table that the file holds
    pub table : Seen
    pub holds : judge_file Ours file ≡ accepted table
    -- compiling did not refuse it
    pub compiled : n < 65536
    -- evaluated at any cell, the network gives a grade that obeys the file
    pub evaluated : (cell : ℕ) → cell < cells (places table.cards) → (work after : List ℕ) (grade : ℕ) → n ≤ length work
        → Evaluates network_lent shape_lent cell work after grade → Obeys file table cell grade
    -- evaluated at a list of numbers, at each place that has a cell
    pub visited : (visits grades work grades' work' : List ℕ) (answer : ℕ) → n ≤ length work → length visits ≤ length grades
        → EvaluatesEach network_lent shape_lent visits grades work answer grades' work'
        → (answer ≡ 0) × ((i : ℕ) → i < length visits → at visits i < cells (places table.cards) → Obeys file table (at visits i) (at grades' i))
    -- a check of it against the limits that were read finds every cell within
    pub checked : (work after : List ℕ) (answer : ℕ) → n ≤ length work → Checks network_lent shape_lent lower upper work answer after → answer ≡ 0
    -- a forecast of what was read has told how many records these are, and how deep
    pub foretold : (work depth work' depth' : List ℕ) (count : ℕ) → Forecasts how shape_lent lower upper work depth count work' depth' → count < 65536
        → (count ≡ n) × (word depth' 0 ≡ network_depth (network_records (places table.cards) network_lent))

-- a file that reading accepts, whatever the buffers held before, and compiling, under whatever settings, with room for the table that it holds
abbrev pub WholePath : Type 0
WholePath = (how : Settings) (file shape lower upper shape' lower' upper' : List ℕ) → Reads file shape lower upper 0 shape' lower' upper'
    → (work network work' network' : List ℕ) (n : ℕ) → compile_work (lent_cells (take 10 shape')) ≤ length work → 16 * most_records (lent_cells (take 10 shape')) ≤ length network
    → Compiles how (take 10 shape') lower' upper' work network n work' network'
    → Followed how file shape' lower' upper' n network'
