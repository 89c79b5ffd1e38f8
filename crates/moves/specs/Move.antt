-- Tables moved to other places in runs: the cells that differ in the lowest places only.
use Rattle.std.specs.Prelude.{ℕ, ◌+◌, ◌*◌, ◌≤◌, ◌<◌, ◌≡◌, ◌≢◌, Bool, true, false, List, ◌++◌, drop}
use Rattle.rules.specs.Bytes.{pick}
use Rattle.rules.specs.Cell.{cells, step, remap}
use Rattle.tables.specs.Part.{Apart, Shaped}
use Rattle.moves.specs.declared.Run.{Run}

-- the cell map of the places from j on
abbrev pub remap_from : ℕ → List ℕ → List ℕ → ℕ → ℕ
remap_from j b a x = remap (drop j b) (drop j a) x

-- a place with k values in b and l in a ends a run: where the two differ, or where both have a condition there
abbrev pub EndsRun : Bool → ℕ → ℕ → Type 0
EndsRun true k l = k ≢ l
EndsRun false k l = (1 < k) × (1 < l)

-- what cell o of run r of b is in a: cell o of a run there, or for every o the one cell where such a run begins
pub record Runs (a b : List ℕ) (along : Bool) (run : Run) : Type 0 where
  pub few : run.places ≤ 8
  pub cells_is : run.cells ≡ step b run.places
  pub first-is : run.first ≡ step a run.places
  pub reads : (r o : ℕ) → o < run.cells → remap b a (o + run.cells * r) ≡ pick along o 0 + run.first * remap_from run.places b a r

-- one table, or two, one behind the other
abbrev pub together : Bool → List ℕ → List ℕ → List ℕ
together true s t = s ++ t
together false s t = s

-- the bytes that they take, of n cells each
abbrev pub room : Bool → ℕ → ℕ
room both n = pick both (2 * n) n

-- a buffer with two tables over the places a, or one that is both, and with room for those over b
pub record Moving (w a b : List ℕ) (n low high to : ℕ) (both : Bool) : Type 0 where
  pub first : Shaped a
  pub shaped : Shaped b
  pub count : n ≡ cells b
  pub lower : Apart w low (cells a) to (room both (cells b))
  pub upper : Apart w high (cells a) to (room both (cells b))
