-- 01, Stages: what a stage needs of its buffers, and what it leaves there.
use Rattle.std.specs.Prelude.{ℕ, ◌+◌, ◌*◌, ◌≤◌, ◌<◌, ◌≡◌, Bool, true, false, cond, List, T, length}
use Rattle.rules.specs.declared.Gate.{Gate}
use Rattle.rules.specs.declared.Settings.{Settings}
use Rattle.rules.specs.Settings.{split_condition, settings_of}
use Rattle.rules.specs.Bytes.{at}
use Rattle.rules.specs.Cell.{cells, card, present, width, without}
use Rattle.rules.specs.Limits.{Limits}
use Rattle.rules.specs.Join.{join_exists}
use Rattle.rules.specs.Tree.{Tree, size}
use Rattle.rules.specs.Stage.{Stage, Weak, nowhere, weak_found, computed, join_tree, split_tree, weak_tree, fewest, tree_of}
use Rattle.tables.specs.Part.{part, Shaped}
use Rattle.masks.specs.Masks.{Known}
use Rattle.stage_drops.specs.Working.{Room, front_stage, Proper, ForBoth}
use Rattle.stage_blocks.specs.Blocks.{stage_of}
use Rattle.stage_steps.specs.declared.gates.Extent.{Extent}
use Rattle.stage_steps.specs.Extents.{ExtentOf, TreePut}
use Rattle.weak_joins.specs.declared.Candidates.{Candidates}
use Rattle.weak_joins.specs.Opening.{Turned}

-- a tree's records are put from r on; its function, as a table over ks, stands at `to` in the work buffer where it is wanted
pub record Written (ks : List ℕ) (tree : Tree) (to : ℕ) (want : Bool) (w net : List ℕ) (r : ℕ) (of : Extent) (w' net' : List ℕ) : Type 0 where
  pub put : TreePut tree net r of net'
  pub function : want ≡ true → part w' to (cells ks) ≡ computed ks tree
  pub len : length w' ≡ length w

-- the numbers of a tree's records from r on have two bytes
abbrev pub Numbered : Tree → ℕ → Type 0
Numbered tree r = r + size tree ≤ 65536

-- a stage of c cells whose limits are the front of the work buffer, with its masks behind them where they are known. One that may take a
-- weak join needs room for a stage as large as itself behind its eight parts. Of the network buffer nothing is asked
pub record Starts (how : Settings) (m : ℕ) (ks : List ℕ) (c : ℕ) (known may : Bool) (w : List ℕ) (r : ℕ) : Type 0 where
  pub shaped : Shaped ks
  pub own : c ≡ cells ks
  pub few : (i : ℕ) → card ks i ≤ 8
  pub work : 24 * cells ks ≤ length w
  pub more : may ≡ true → 32 * cells ks ≤ length w
  pub proper : Proper m (front_stage ks w)
  pub masks : known ≡ true → Known m ks w
  pub numbers : Numbered (tree_of how m may (front_stage ks w)) r

-- a stage y with its conditions left, in a buffer with parts of c bytes, one for each cell
pub record Left (m : ℕ) (y : Stage) (c : ℕ) (w : List ℕ) : Type 0 where
  pub own : Room w y.ks c
  pub few : (i : ℕ) → card y.ks i ≤ 8
  pub work : 24 * c ≤ length w
  pub wide : 2 ≤ width y.ks
  pub proper : Proper m y

-- behind the parts of a stage of c cells, room for one over the places a
pub record Behind (may : Bool) (a : List ℕ) (c : ℕ) (w : List ℕ) : Type 0 where
  pub work : 8 * c + 24 * cells a ≤ length w
  pub more : may ≡ true → 8 * c + 32 * cells a ≤ length w

-- without the set d, fewer conditions and half of the cells at most
pub record Smaller (ks : List ℕ) (d : ℕ) : Type 0 where
  pub half : 2 * cells (without d ks) ≤ cells ks
  pub fewer : width (without d ks) < width ks

-- one that joins, by two sets or weakly: its tables are prepared. The first block of a weak join has no condition less, and may take none
pub record Joins (how : Settings) (gate : Gate) (m : ℕ) (y : Stage) (s t : ℕ) (may : Bool) (c : ℕ) (w : List ℕ) (r : ℕ) : Type 0 where
  pub left : Left m y c w
  pub exists : T (join_exists gate y.ks m s t y.limits)
  pub first-room : Behind may (without t y.ks) c w
  pub first-fewer : may ≡ true → width (without t y.ks) < width y.ks
  pub second : Smaller y.ks s
  pub tables : ForBoth gate m y s t w
  pub numbers : Numbered (join_tree m (tree_of how m) may gate s t y) r

-- some limits are such that the stage joins, and whatever they are, their network is written
abbrev pub CanJoin : Settings → Gate → ℕ → List ℕ → ℕ → ℕ → Bool → ℕ → List ℕ → ℕ → Type 0
CanJoin how gate m ks s t may c w r = (l : Limits) × Joins how gate m (stage_of ks l) s t may c w r

-- parts 4 and 5 stay, and part 0 where the function is not wanted
pub record Joined (how : Settings) (gate : Gate) (m : ℕ) (ks : List ℕ) (s t : ℕ) (may : Bool) (c : ℕ) (want : Bool) (w net : List ℕ) (r : ℕ) (of : Extent) (w' net' : List ℕ) : Type 0 where
  pub whole : (l : Limits) → Joins how gate m (stage_of ks l) s t may c w r
      → Written ks (join_tree m (tree_of how m) may gate s t (stage_of ks l)) 0 want w net r of w' net'
  pub aside : part w' (4 * c) (2 * c) ≡ part w (4 * c) (2 * c)
  pub lows : want ≡ false → part w' 0 c ≡ part w 0 c

-- one in which no two sets join: its limits are parts 0 and 1, its masks parts 2 and 3
pub record Undivided (m : ℕ) (ks : List ℕ) (c : ℕ) (w : List ℕ) : Type 0 where
  pub left : Left m (front_stage ks w) c w
  pub masks : Known m ks w

-- the condition that a split takes, by the byte of settings
abbrev pub splits_on : ℕ → List ℕ → ℕ
splits_on how ks = split_condition (settings_of how).splits ks

-- one that splits on condition a
pub record Splits (how : Settings) (m a : ℕ) (ks : List ℕ) (c : ℕ) (w : List ℕ) (r : ℕ) : Type 0 where
  pub whole : Undivided m ks c w
  pub there : T (present ks a)
  pub numbers : Numbered (split_tree m (tree_of how m) a (front_stage ks w)) r

-- its function is in part 4, and what stands before it stays
pub record Divided (how : Settings) (m a : ℕ) (ks : List ℕ) (c : ℕ) (want : Bool) (w net : List ℕ) (r : ℕ) (of : Extent) (w' net' : List ℕ) : Type 0 where
  pub written : Written ks (split_tree m (tree_of how m) a (front_stage ks w)) (4 * c) want w net r of w' net'
  pub front : (j : ℕ) → j < 4 * c → at w' j ≡ at w j

-- Request 5. One that tries a weak join at condition i beside the split on condition a
pub record Tries (how : Settings) (m a : ℕ) (ks : List ℕ) (i c : ℕ) (w : List ℕ) : Type 0 where
  pub whole : Undivided m ks c w
  pub cut : T (present ks a)
  pub work : 32 * c ≤ length w
  pub there : T (present ks i)
  pub number : i < 8

-- both candidates are counted from record 0 on. Their functions stand in part 4 and at the front where they are wanted; else the limits are
-- there, as the weak join wants them
pub record Counted (how : Settings) (gate : Gate) (m a : ℕ) (ks : List ℕ) (i c : ℕ) (want : Bool) (w : List ℕ) (of : Candidates) (w' : List ℕ) : Type 0 where
  pub split : ExtentOf (split_tree m (tree_of how m) a (front_stage ks w)) 0 of.split
  pub weak : ExtentOf (weak_tree m (tree_of how m) gate i (front_stage ks w)) 0 of.weak
  pub split-function : want ≡ true → part w' (4 * c) (cells ks) ≡ computed ks (split_tree m (tree_of how m) a (front_stage ks w))
  pub weak-function : want ≡ true → part w' 0 (cells ks) ≡ computed ks (weak_tree m (tree_of how m) gate i (front_stage ks w))
  pub limits : want ≡ false → Turned gate m ks (front_stage ks w).limits c w'
  pub len : length w' ≡ length w

-- the weak join that a stage tries, if it does
abbrev pub tried_if : ℕ → Bool → Stage → Weak
tried_if m sought x = cond sought (weak_found m x) nowhere

-- one that splits on condition a, or takes a weak join in the place of the split, if it tries one
pub record Divides (how : Settings) (m a : ℕ) (ks : List ℕ) (c : ℕ) (sought : Bool) (w : List ℕ) (r : ℕ) : Type 0 where
  pub whole : Undivided m ks c w
  pub cut : T (present ks a)
  pub more : sought ≡ true → 32 * c ≤ length w
  pub numbers : Numbered (fewest m (tree_of how m) (tried_if m sought (front_stage ks w)) a (front_stage ks w)) r
