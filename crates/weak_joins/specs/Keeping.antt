-- Which of two candidates a stage keeps: the weak join if it has fewer records than the split.
use Rattle.std.specs.Prelude.{ℕ, ◌+◌, ◌*◌, ◌≤◌, ◌<◌, ◌≡◌, Bool, List}
use Rattle.tables.specs.Part.{part, Laid}
use Rattle.stage_steps.specs.declared.gates.Extent.{Extent}
use Rattle.stage_steps.specs.Wanting.{Wanted}
use Rattle.weak_joins.specs.declared.Candidates.{Candidates}

-- its extent from record r on; the function of the split comes to the front where it is wanted
pub record Kept (c : ℕ) (of : Candidates) (r : ℕ) (want : Bool) (w : List ℕ) (e : Extent) (w' : List ℕ) : Type 0 where
  pub weak : of.weak.next < of.split.next → (e ≡ record { next = r + of.weak.next; depth = of.weak.depth }) × (w' ≡ w)
  pub split : of.split.next ≤ of.weak.next
      → (e ≡ record { next = r + of.split.next; depth = of.split.depth }) × Wanted want (Laid w 0 (part w (4 * c) c) c) w w'
