-- 01, Stages, step 5, in a stage's work buffer: the tables of a join's blocks are laid at 8 × c, where the stages that it starts find them.
use Rattle.std.specs.Prelude.{ℕ, ◌+◌, ◌*◌, ◌≤◌, ◌≡◌, List, ◌⊎◌, length}
use Rattle.rules.specs.declared.Gate.{Gate}
use Rattle.rules.specs.Bytes.{at, tabulate}
use Rattle.rules.specs.Cell.{cells, without, moved}
use Rattle.rules.specs.Limits.{Limits, each}
use Rattle.rules.specs.Network.{combine}
use Rattle.rules.specs.Stage.{Stage, first_stage, second_stage}
use Rattle.tables.specs.Part.{part, Shaped, stage_at}
use Rattle.join_tables.specs.Parts.{Below}
use Rattle.stage_drops.specs.Working.{Room, ForSecond, ForBoth}

abbrev pub stage_of : List ℕ → Limits → Stage
stage_of ks l = record { ks = ks; limits = l }

-- a part that stays when limits are laid: these may need parts 3 and 7
pub record Clear (a n c : ℕ) : Type 0 where
  pub aside : (a + n ≤ 3 * c) ⊎ ((4 * c ≤ a) × (a + n ≤ 7 * c))

-- grades in such a part
pub record Source (w : List ℕ) (a n m c : ℕ) : Type 0 where
  pub clear : Clear a n c
  pub grades : Below w a n m

-- a buffer with room for a stage over the places b at 8 × c
pub record LimitsRoom (w ks b : List ℕ) (c : ℕ) : Type 0 where
  pub own : Room w ks c
  pub shaped : Shaped b
  pub space : 8 * c + 2 * cells b ≤ length w

-- the stage over the places b stands there, under limits l that are for the cells of ks
pub record LimitsLaid (ks b : List ℕ) (l : Limits) (c : ℕ) (w w' : List ℕ) : Type 0 where
  pub stage : stage_at b w' (8 * c) (8 * c + cells b) ≡ stage_of b (each (moved ks b) l)
  pub kept : (a n : ℕ) → Clear a n c → part w' a n ≡ part w a n
  pub len : length w' ≡ length w

-- part 0 and parts 4 and 5 are as they were: a join leaves them standing until its own function is made
pub record Standing (c : ℕ) (w w' : List ℕ) : Type 0 where
  pub lows : part w' 0 c ≡ part w 0 c
  pub aside : part w' (4 * c) (2 * c) ≡ part w (4 * c) (2 * c)

-- a buffer from which the first block's table can be made
pub record FirstRoom (w ks : List ℕ) (m t c : ℕ) : Type 0 where
  pub own : Room w ks c
  pub space : 8 * c + 2 * cells (without t ks) ≤ length w
  pub some : 1 ≤ m
  pub lows : Below w 0 (cells ks) m
  pub firsts : Below w (2 * c) (cells ks) m

-- whatever limits the stage has: the first block's stage stands at 8 × c, and what the second is made from stays
pub record FirstLaid (gate : Gate) (m : ℕ) (ks : List ℕ) (t c : ℕ) (w r w' : List ℕ) : Type 0 where
  pub places : r ≡ without t ks
  pub stage : (s : ℕ) (l : Limits) → ForBoth gate m (stage_of ks l) s t w → stage_at r w' (8 * c) (8 * c + cells r) ≡ first_stage m gate s t (stage_of ks l)
  pub second : (s : ℕ) (l : Limits) → ForSecond gate m (stage_of ks l) s t w → ForSecond gate m (stage_of ks l) s t w'
  pub standing : Standing c w w'
  pub len : length w' ≡ length w

-- a buffer from which the second block's table can be made, the first block's function being at 8 × c, over the places a
pub record SecondRoom (w ks a : List ℕ) (m s c : ℕ) : Type 0 where
  pub own : Room w ks c
  pub shaped : Shaped a
  pub block : 8 * c + cells a ≤ length w
  pub space : 8 * c + 2 * cells (without s ks) ≤ length w
  pub some : 1 ≤ m
  pub lows : Below w 0 (cells ks) m
  pub seconds : Below w c (cells ks) m
  pub grades : Below w (8 * c) (cells a) m

-- the second block's stage stands at 8 × c, and the first block's function in part 6
pub record SecondLaid (gate : Gate) (m : ℕ) (ks a : List ℕ) (s c : ℕ) (w r w' : List ℕ) : Type 0 where
  pub places : r ≡ without s ks
  pub stage : (t : ℕ) (l : Limits) → ForSecond gate m (stage_of ks l) s t w
      → stage_at r w' (8 * c) (8 * c + cells r) ≡ second_stage m gate s t (stage_of ks l) (moved a ks (part w (8 * c) (cells a)))
  pub first : part w' (6 * c) (cells ks) ≡ moved a ks (part w (8 * c) (cells a))
  pub standing : Standing c w w'
  pub len : length w' ≡ length w

-- a buffer with the second block's function at 8 × c, over the places b
pub record JoinedRoom (w ks b : List ℕ) (c : ℕ) : Type 0 where
  pub own : Room w ks c
  pub shaped : Shaped b
  pub block : 8 * c + cells b ≤ length w

-- the join's function stands in part 0, and parts 4 and 5 are as they were
pub record JoinedLaid (gate : Gate) (ks b : List ℕ) (c : ℕ) (w w' : List ℕ) : Type 0 where
  pub here : part w' 0 (cells ks)
      ≡ tabulate (cells ks) (λ k. combine gate (at (part w (6 * c) (cells ks)) k) (at (moved b ks (part w (8 * c) (cells b))) k))
  pub aside : part w' (4 * c) (2 * c) ≡ part w (4 * c) (2 * c)
  pub len : length w' ≡ length w
