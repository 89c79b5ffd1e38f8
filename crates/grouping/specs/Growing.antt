-- Two sets that grow, and the two tables that go with them.
use Rattle.std.specs.Prelude.{ℕ, ◌+◌, ◌≤◌, ◌<◌, ◌≡◌, Bool, true, false, List, length}
use Rattle.rules.specs.Bytes.{at, numbers_from}
use Rattle.rules.specs.Cell.{cells, present, insert, singleton, least_over}
use Rattle.rules.specs.Stage.{Grouping, sets, try_join, first_pair, grouping}
use Rattle.tables.specs.Part.{part, Laid, Shaped, Two}
use Rattle.grouping.specs.Joining.{joins, joins_at, admits}
use Rattle.grouping.specs.declared.Sets.{Sets}

abbrev pub sets_of : Sets → Grouping
sets_of p = sets p.s p.t

-- the upper grades u over the two sets: at a over t, for the block that is blind to t; at b over s
pub record Held (ks u : List ℕ) (s t a b : ℕ) (w : List ℕ) : Type 0 where
  pub first : part w a (cells ks) ≡ least_over ks t u
  pub second : part w b (cells ks) ≡ least_over ks s u

-- w' is w but for n bytes at a and n at b
pub record Kept (w : List ℕ) (a b n : ℕ) (w' : List ℕ) : Type 0 where
  pub len : length w' ≡ length w
  pub other : (j : ℕ) → (a ≤ j → j < a + n → ⊥) → (b ≤ j → j < b + n → ⊥) → at w' j ≡ at w j

-- a table at low, with room for two others at a and at b
pub record Space (w ks : List ℕ) (low a b : ℕ) : Type 0 where
  pub shaped : Shaped ks
  pub first : Two w low a (cells ks)
  pub second : Two w low b (cells ks)
  pub both : Two w a b (cells ks)

-- the tables of two sets of one condition each, from the upper grades at high
pub record Started (w ks : List ℕ) (i j high a b : ℕ) (w' : List ℕ) : Type 0 where
  pub held : Held ks (part w high (cells ks)) (singleton i) (singleton j) a b w'
  pub kept : Kept w a b (cells ks) w'

-- the table at grow taken over condition i, if that is admitted
pub record Tried (w ks : List ℕ) (i low keep grow : ℕ) (r : Bool) (w' : List ℕ) : Type 0 where
  pub is : r ≡ admits ks i (part w low (cells ks)) (part w keep (cells ks)) (part w grow (cells ks))
  pub on : r ≡ true → Laid w grow (least_over ks (singleton i) (part w grow (cells ks))) (cells ks) w'
  pub off : r ≡ false → w' ≡ w

-- two sets grown, in a buffer that was w and is w': `to` says what they become, given which sets join. Whatever upper grades u the
-- tables at a and b were made from, those that stand there afterwards are made from them too
pub record Grows (w ks : List ℕ) (low a b s t : ℕ) (to : (ℕ → ℕ → Bool) → Grouping) (s' t' : ℕ) (w' : List ℕ) : Type 0 where
  pub kept : Kept w a b (cells ks) w'
  pub is : (u : List ℕ) → Held ks u s t a b w → sets s' t' ≡ to (joins ks (part w low (cells ks)) u)
  pub held : (u : List ℕ) → Held ks u s t a b w → Held ks u s' t' a b w'

-- condition i tried in s, then in t
abbrev pub in_order : List ℕ → ℕ → ℕ → ℕ → (ℕ → ℕ → Bool) → Grouping
in_order ks i s t js = try_join (present ks) js (insert s i) t (try_join (present ks) js s (insert t i) (sets s t))

-- i and j are the first pair of the places' conditions that joins
pub record First (joins : ℕ → ℕ → Bool) (ks : List ℕ) (i j : ℕ) : Type 0 where
  pub rising : i < j
  pub last : j < 8
  pub is : sets (singleton i) (singleton j) ≡ first_pair (present ks) joins (numbers_from 0 8)

-- the grouping under the limits at low and at high, with its tables at a and b
pub record Grouped (w ks : List ℕ) (low high a b : ℕ) (r : Sets) (w' : List ℕ) : Type 0 where
  pub is : sets_of r ≡ grouping (present ks) (joins_at ks w low high) (numbers_from 0 8)
  pub held : Held ks (part w high (cells ks)) r.s r.t a b w'
  pub kept : Kept w a b (cells ks) w'
