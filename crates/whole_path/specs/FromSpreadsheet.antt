-- From a spreadsheet's file to a grade: what holds of a file that `grades_from_sets` has turned into ours, and of whatever grade obeys that.
-- Of the call nothing is used but its promise.
use Rattle.std.specs.Prelude.{ℕ, ◌/◌, ◌≤◌, ◌<◌, ◌≡◌, List, T, length, take}
use Rattle.rules.specs.declared.Edition.TheVariants.{Ours, Spreadsheet}
use Rattle.rules.specs.Bytes.{at, record_at, word}
use Rattle.rules.specs.Cell.{cells, has}
use Rattle.rules.specs.Shape.{places}
use Rattle.rules.specs.Verdict.{accepted}
use Rattle.rules.specs.TableFile.{Seen, listed_cell, cell_kind, judge_file}
use Rattle.panel_editions.specs.Converts.{Converts}
use Rattle.whole_path.specs.WholePath.{Obeys}

-- record k of the spreadsheet's file lists the cell, over the places ks
abbrev pub ListsSet : List ℕ → List ℕ → ℕ → ℕ → Type 0
ListsSet sets ks k cell = (k < length sets / 16) × (at (record_at sets k) 0 ≡ cell_kind Spreadsheet) × (listed_cell ks (record_at sets k) ≡ cell)

module _ (sets : List ℕ) (table : Seen) where
  pub record ObeysSets (cell grade : ℕ) : Type 0 where
    -- it is one of the grades that the file lists for the cell
    pub member : (k : ℕ) → ListsSet sets (places table.cards) k cell → T (has (word (record_at sets k) 2) grade)
    -- and never 0 where the file does not list the cell
    pub unforeseen : ((k : ℕ) → ListsSet sets (places table.cards) k cell → ⊥) → 1 ≤ grade

-- a file that the call accepts, whatever the output held before: what it has written holds a table, as the file does, and a grade that obeys
-- that obeys the sets
pub record Exported (sets file : List ℕ) : Type 0 where
  pub table : Seen
  pub holds : judge_file Ours file ≡ accepted table
  pub exported : judge_file Spreadsheet sets ≡ accepted table
  pub obeys : (cell grade : ℕ) → cell < cells (places table.cards) → Obeys file table cell grade → ObeysSets sets table cell grade

abbrev pub FromSpreadsheet : Type 0
FromSpreadsheet = (sets out out' : List ℕ) → Converts Spreadsheet sets out 0 out' → Exported sets (take (length sets) out')
