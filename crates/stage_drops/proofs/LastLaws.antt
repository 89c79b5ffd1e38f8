-- The last condition of a stage, in its buffer.
use Prim.Native.Nat.{ℕ, ◌≤◌, ◌<◌}
use mathlib.Core.Path.{◌≡◌, sym, ◌∙◌, ap}
use mathlib.Core.List.{List}
use native.Mathlib.Omega.{arith}
use lib.ListN.{length}
use Rattle.rules.specs.Cell.{width, step}
use Rattle.rules.specs.Stage.{drop_one, left}
use Rattle.laws.proofs.LastLaws.{step-lowest, one_dropped}
use Rattle.laws.proofs.LowestLaws.{some_left, narrow-left}
use Rattle.places.specs.declared.sets.Condition.{Condition}
use Rattle.places.specs.Conditions.{IsLowest}
use Rattle.tables.specs.Line.{Counts}
use Rattle.stage_drops.specs.Working.{Room, front_stage, Turned}

-- the lowest condition has as many values as there are cells: it is the only one, or there is none
module _ {ks : List ℕ} {low : Condition} {n : ℕ} (w : List ℕ) (room : Room w ks n) (is : IsLowest ks low) (all : low.values ≡ n) where
  narrow : width ks < 2
  narrow = narrow-left ks room.shaped.some (sym is.values ∙ all ∙ room.own)

  module _ (l : low.number < 8) (e : length ks ≡ 8) where
    some : 1 ≤ width ks
    some = let f = is.number in some_left ks room.shaped.some (omega arith)

    pub last-counts : Counts ks low.number n 1 × Room w ks n
    last-counts =
        (record { place = l; count = room.own; step_is = sym (ap (step ks) is.number ∙ step-lowest ks room.shaped.some) }, room)

    pub last-turned : {r w' : List ℕ} → Turned (drop_one low.number) ks w r w' → Turned left ks w r w'
    last-turned t =
        record {
          stage =
              t.stage ∙ ap (λ (i : ℕ). drop_one i (front_stage ks w)) is.number
              ∙ sym (one_dropped (front_stage ks w) room.shaped.some (let a = narrow in let b = some in omega arith));
          len = t.len;
        }
