-- 01, Joins. In the field: strong bi-decomposition of an interval of functions by max or by min. The sets s and t are the blocks' own
-- variables, s the first block's and t the second's; the variables in neither are common to both blocks.
use Rattle.std.specs.Prelude.{ℕ, ◌-◌, max, Bool, not, ◌&&◌, ◌||◌, List, leb, ltb, eqb}
use Rattle.rules.specs.declared.Gate.{Gate}
use Rattle.rules.specs.declared.Gate.TheVariants.{Min, Max}
use Rattle.rules.specs.declared.Refusal.TheVariants.{ShapeRange, GradeLimits, Sets, NoJoin, FirstBlock, ShortBuffer}
use Rattle.rules.specs.Bytes.{pick, at, tabulate, all, some}
use Rattle.rules.specs.Cell.{cells, present, has, singleton, agree_outside, greatest_over, least_over}
use Rattle.rules.specs.Shape.{places, shape_sound}
use Rattle.rules.specs.Limits.{Limits, limits_sound}
use Rattle.rules.specs.Verdict.{Verdict, accepted, unless, roomy}

-- a grade where it is above another, else 0
abbrev pub above : ℕ → ℕ → ℕ
above x y = pick (ltb y x) x 0

-- the max join at the sets s and t, under the limits l and u
module _ (ks : List ℕ) (s t : ℕ) (l u : List ℕ) where
  abbrev pub u_a : List ℕ
  u_a = least_over ks t u

  abbrev pub u_b : List ℕ
  u_b = least_over ks s u

  -- no cell's lower grade is above both
  abbrev pub max_exists : Bool
  max_exists = let a = u_a in let b = u_b in all (cells ks) (λ c. leb (at l c) (max (at a c) (at b c)))

  abbrev pub l_a : List ℕ
  l_a = let b = u_b in greatest_over ks t (tabulate (cells ks) (λ c. above (at l c) (at b c)))

  -- given the first block g
  abbrev pub l_b : List ℕ → List ℕ
  l_b g = greatest_over ks s (tabulate (cells ks) (λ c. above (at l c) (at g c)))

-- each grade of a table replaced by what it lacks to the greatest grade
abbrev pub complement : List ℕ → ℕ → List ℕ → List ℕ
complement ks m t = tabulate (cells ks) (λ c. m - 1 - at t c)

-- the exchange of 01's min join; to change back is the same. In the field: the duality of min and max
abbrev pub exchange : List ℕ → ℕ → Limits → Limits
exchange ks m l = record { lower = complement ks m l.upper; upper = complement ks m l.lower }

-- the limits as the max join wants them, for a join by either gate; and a block's grades
abbrev pub exchange_for : Gate → List ℕ → ℕ → Limits → Limits
exchange_for Max ks m l = l
exchange_for Min ks m l = exchange ks m l

abbrev pub exchange_block_for : Gate → List ℕ → ℕ → List ℕ → List ℕ
exchange_block_for Max ks m g = g
exchange_block_for Min ks m g = complement ks m g

-- whether the join by a gate exists. In the field: the test for a strong bi-decomposition with s and t as the blocks' own variables
abbrev pub join_exists : Gate → List ℕ → ℕ → ℕ → ℕ → Limits → Bool
join_exists op ks m s t l = let x = exchange_for op ks m l in max_exists ks s t x.lower x.upper

-- the first block's limits
abbrev pub first_limits : Gate → List ℕ → ℕ → ℕ → ℕ → Limits → Limits
first_limits op ks m s t l =
    let x = exchange_for op ks m l in
    exchange_for op ks m (record { lower = l_a ks s t x.lower x.upper; upper = u_a ks s t x.lower x.upper })

-- the second block's limits, given the first block g
abbrev pub second_limits : Gate → List ℕ → ℕ → ℕ → ℕ → Limits → List ℕ → Limits
second_limits op ks m s t l g =
    let x = exchange_for op ks m l in
    exchange_for op ks m
    (record { lower = l_b ks s t x.lower x.upper (exchange_block_for op ks m g); upper = u_b ks s t x.lower x.upper })

-- Request 5: the weak join at condition i, with S = {i} and T empty. By max it counts when some cell has lower > 0 and lower ≤ u_b
abbrev pub max_counts : List ℕ → ℕ → List ℕ → List ℕ → Bool
max_counts ks i l u = let b = u_b ks (singleton i) 0 l u in some (cells ks) (λ c. ltb 0 (at l c) && leb (at l c) (at b c))

-- by min, when the one by max does under the limits exchanged
abbrev pub weak_counts : Gate → List ℕ → ℕ → ℕ → Limits → Bool
weak_counts op ks m i l = let x = exchange_for op ks m l in max_counts ks i x.lower x.upper

-- The join calls: the rows of "Places where a call stops" in their order.

-- row 7: two non-empty sets, of conditions that are there, with none in common
abbrev pub sets_sound : List ℕ → ℕ → ℕ → Bool
sets_sound ks s t =
    (not (eqb s 0) && not (eqb t 0))
    && all 8 (λ i. not (has s i && has t i) && (not (has s i || has t i) || present ks i))

-- cells that agree outside t have the same grade
abbrev pub blind_test : List ℕ → ℕ → List ℕ → Bool
blind_test ks t g = all (cells ks) (λ c. all (cells ks) (λ d. not (agree_outside ks t c d) || eqb (at g c) (at g d)))

-- row 9: a first block within its limits, that does not depend on t
abbrev pub block_sound : List ℕ → ℕ → Limits → List ℕ → Bool
block_sound ks t l g = all (cells ks) (λ c. leb (at l.lower c) (at g c) && leb (at g c) (at l.upper c)) && blind_test ks t g

-- a shape's bytes, the lengths of the lent buffers, and the limits that they hold
module _ (n : ℕ) (cards : List ℕ) (m : ℕ) (lengths : List ℕ) (l : Limits) (op : Gate) (s t : ℕ) where
  -- what both calls refuse, before what they go on to
  abbrev pub join_rows : Verdict Limits → Verdict Limits
  join_rows next =
      unless (shape_sound n cards m) ShapeRange
      (unless (roomy (cells (places cards)) lengths) ShortBuffer
      (unless (limits_sound (places cards) m l) GradeLimits
      (unless (sets_sound (places cards) s t) Sets
      (unless (join_exists op (places cards) m s t l) NoJoin
      next))))

  -- the call for the first block
  abbrev pub join_first : Verdict Limits
  join_first = join_rows (accepted (first_limits op (places cards) m s t l))

  -- the call for the second, given the first block g
  abbrev pub join_second : List ℕ → Verdict Limits
  join_second g =
      join_rows
      (unless (block_sound (places cards) t (first_limits op (places cards) m s t l) g) FirstBlock
      (accepted (second_limits op (places cards) m s t l g)))
