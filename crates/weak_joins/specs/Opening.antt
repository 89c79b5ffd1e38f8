-- The tables of a weak join in a stage's work buffer, and the stage's limits again.
use Rattle.std.specs.Prelude.{ℕ, ◌*◌, ◌≤◌, ◌≡◌, List, length}
use Rattle.rules.specs.declared.Gate.{Gate}
use Rattle.rules.specs.Cell.{cells, singleton}
use Rattle.rules.specs.Join.{exchange_for}
use Rattle.rules.specs.Limits.{Limits}
use Rattle.tables.specs.Part.{part, Two}
use Rattle.join_tables.specs.Parts.{Below}
use Rattle.masks.specs.Masks.{Known}
use Rattle.stage_drops.specs.Working.{front_stage, Proper, ForBoth}
use Rattle.stage_blocks.specs.Blocks.{stage_of}

-- limits of n cells: the lower ones in part 0, the upper ones at a
pub record Limited (l : Limits) (a n : ℕ) (w : List ℕ) : Type 0 where
  pub lows : part w 0 n ≡ l.lower
  pub highs : part w a n ≡ l.upper

-- limits below m grades in part 0 and at `from`, and room for the upper ones at `to`
pub record Turnable (m from to n : ℕ) (w : List ℕ) : Type 0 where
  pub some : 1 ≤ m
  pub parts : Two w from to n
  pub source : n ≤ from
  pub target : n ≤ to
  pub lows : Below w 0 n m
  pub highs : Below w from n m

-- whatever limits they were, over whatever places: they are exchanged; and what lies apart stays
pub record Turns (gate : Gate) (m from to n : ℕ) (w w' : List ℕ) : Type 0 where
  pub limits : (ks : List ℕ) (l : Limits) → n ≡ cells ks → Limited l from n w → Limited (exchange_for gate ks m l) to n w'
  pub kept : (a : ℕ) → n ≤ a → Two w a to n → part w' a n ≡ part w a n
  pub len : length w' ≡ length w

-- the limits l as the max join wants them, the upper ones in part 5, which a join leaves
pub record Turned (gate : Gate) (m : ℕ) (ks : List ℕ) (l : Limits) (n : ℕ) (w : List ℕ) : Type 0 where
  pub lows : part w 0 n ≡ (exchange_for gate ks m l).lower
  pub highs : part w (5 * n) n ≡ (exchange_for gate ks m l).upper

-- whatever limits they are: the tables of the weak join at condition i
pub record Reopened (ks : List ℕ) (i n : ℕ) (w w' : List ℕ) : Type 0 where
  pub tables : (gate : Gate) (m : ℕ) (l : Limits) → Turned gate m ks l n w → ForBoth gate m (stage_of ks l) (singleton i) 0 w'
  pub stays : (gate : Gate) (m : ℕ) (l : Limits) → Turned gate m ks l n w → Turned gate m ks l n w'
  pub kept : part w' (4 * n) n ≡ part w (4 * n) n
  pub len : length w' ≡ length w

-- the same of the stage at the front
pub record Opened (gate : Gate) (m : ℕ) (ks : List ℕ) (i n : ℕ) (w w' : List ℕ) : Type 0 where
  pub tables : ForBoth gate m (front_stage ks w) (singleton i) 0 w'
  pub limits : Turned gate m ks (front_stage ks w).limits n w'
  pub kept : part w' (4 * n) n ≡ part w (4 * n) n
  pub len : length w' ≡ length w

-- limits in order were turned
pub record CanRestore (gate : Gate) (m : ℕ) (ks : List ℕ) (n : ℕ) (w : List ℕ) : Type 0 where
  pub limits : Limits
  pub proper : Proper m (stage_of ks limits)
  pub turned : Turned gate m ks limits n w

-- whatever buffer the stage stood in at the front of: it does again, with its masks
pub record Restored (gate : Gate) (m : ℕ) (ks : List ℕ) (n : ℕ) (w w' : List ℕ) : Type 0 where
  pub stage : (w₀ : List ℕ) → 8 * n ≤ length w₀ → Proper m (front_stage ks w₀) → Turned gate m ks (front_stage ks w₀).limits n w
      → (front_stage ks w' ≡ front_stage ks w₀) × Known m ks w'
  pub len : length w' ≡ length w
