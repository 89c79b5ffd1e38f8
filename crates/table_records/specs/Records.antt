-- The code's answers on table records as the rules see them, and what holds of the records so far.
use Rattle.std.specs.Prelude.{ℕ, ◌≤◌, ◌<◌, ◌≡◌, List, [], ◌∷◌, ◌++◌, Result, length}
use Rattle.rules.specs.declared.Refusal.{Refusal}
use Rattle.rules.specs.Bytes.{at}
use Rattle.rules.specs.Cell.{cells}
use Rattle.rules.specs.Shape.{places}
use Rattle.rules.specs.Verdict.{Verdict, verdict_of, says, answer_of}
use Rattle.rules.specs.TableFile as TableFile
use Rattle.shape.specs.Shapes.{cards_of, shape_from, shape_bytes}
use Rattle.table_records.specs.declared.Seen.{Seen}

abbrev pub seen_of : Seen → TableFile.Seen
seen_of s = record { n = s.shape.n; cards = cards_of s.shape; m = s.shape.m; next = s.next }

-- what is said in 01's numbers: the shape read by its ten bytes, and the number after that of the last cell
abbrev pub seen_bytes : Seen → List ℕ
seen_bytes s = shape_bytes s.shape ++ (s.next ∷ [])

abbrev pub seen_values : TableFile.Seen → List ℕ
seen_values s = shape_bytes (shape_from s.n s.cards s.m) ++ (s.next ∷ [])

-- the promise of a verdict on records
pub record Judges (v : Verdict TableFile.Seen) (r : Result Seen Refusal) : Type 0 where
  pub answer : verdict_of seen_of r ≡ v
  pub means : says seen_bytes r ≡ answer_of seen_values v

-- what holds of the records so far: few enough conditions and cells, cardinalities in range and nothing at the places beyond, grades in
-- range once there are any
pub record InRange (s : TableFile.Seen) : Type 0 where
  pub eight : length s.cards ≡ 8
  pub conditions : s.n ≤ 8
  pub few : cells (places s.cards) ≤ 1024
  pub here : (i : ℕ) → i < s.n → (2 ≤ at s.cards i) × (at s.cards i ≤ 8)
  pub beyond : (i : ℕ) → s.n ≤ i → at s.cards i ≡ 0
  pub grades : (s.m ≡ 0 → ⊥) → (2 ≤ s.m) × (s.m ≤ 16)
