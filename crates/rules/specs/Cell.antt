-- 01, Tables and cells: conditions, cells, sets of conditions, tables.
-- In the field: a condition is a multi-valued variable, a cell a minterm, a table of one grade for each cell a multi-valued function.
-- A shape is the list of its cardinalities by place, `ks`. A place with cardinality 1 has no condition: it adds nothing to a cell's number.
-- So a stage that has lost a condition keeps every other condition at its place, and a condition has one number everywhere.
use Rattle.std.specs.Prelude.{ℕ, zero, suc, ◌+◌, ◌*◌, ◌/◌, ◌%◌, ◌<◌, min, max, ◌≡◌, Bool, true, ◌&&◌, ◌||◌, List, [], ◌∷◌, T, eqb, leb, ltb, get_or}
use Rattle.rules.specs.Bytes.{pick, at, tabulate}

-- the number of cells
abbrev pub cells : List ℕ → ℕ
cells [] = 1
cells (k ∷ ks) = k * cells ks

-- no cardinality is 0
abbrev pub Positive : List ℕ → Type 0
Positive [] = Unit {0}
Positive (k ∷ ks) = (0 < k) × Positive ks

-- the cardinality at place i, 1 past the end
abbrev pub card : List ℕ → ℕ → ℕ
card ks i = get_or ks i 1

-- whether place i has a condition
abbrev pub present : List ℕ → ℕ → Bool
present ks i = ltb 1 (card ks i)

-- how many conditions there are
abbrev pub width : List ℕ → ℕ
width [] = 0
width (k ∷ ks) = pick (ltb 1 k) 1 0 + width ks

-- the condition with the lowest number
abbrev pub lowest : List ℕ → ℕ
lowest [] = 0
lowest (k ∷ ks) = pick (ltb 1 k) 0 (suc (lowest ks))

-- the condition with most values, the lowest on a tie
abbrev pub most_values : List ℕ → ℕ
most_values [] = 0
most_values (k ∷ ks) = pick (leb (card ks (most_values ks)) k) 0 (suc (most_values ks))

-- the value of condition i at cell c
abbrev pub value : List ℕ → ℕ → ℕ → ℕ
value [] c i = 0
value (k ∷ ks) c zero = c % k
value (k ∷ ks) c (suc i) = value ks (c / k) i

-- 01's cell number of the values v 0, v 1, ..
abbrev pub number : List ℕ → (ℕ → ℕ) → ℕ
number [] v = 0
number (k ∷ ks) v = v 0 + k * number ks (λ i. v (suc i))

-- the same where v may have values for more conditions: each is cut to its place's cardinality, to 0 where there is no condition
abbrev pub cell : List ℕ → (ℕ → ℕ) → ℕ
cell [] v = 0
cell (k ∷ ks) v = v 0 % k + k * cell ks (λ i. v (suc i))

-- the cell of b with the values of cell c of a, for the conditions that b has
abbrev pub remap : List ℕ → List ℕ → ℕ → ℕ
remap a b c = cell b (value a c)

-- the cell like c but with value v for condition i
abbrev pub put : List ℕ → ℕ → ℕ → ℕ → ℕ
put [] c i v = c
put (k ∷ ks) c zero v = v + k * (c / k)
put (k ∷ ks) c (suc i) v = c % k + k * put ks (c / k) i v

-- how far apart two cells lie that differ by 1 in condition i: the product of the cardinalities before it
abbrev pub step : List ℕ → ℕ → ℕ
step [] i = 1
step (k ∷ ks) zero = 1
step (k ∷ ks) (suc i) = k * step ks i

-- sets of conditions: whether condition i is in the set s, a number whose bit i says so
abbrev pub has : ℕ → ℕ → Bool
has s zero = eqb (s % 2) 1
has s (suc i) = has (s / 2) i

-- the set s with condition i
abbrev pub insert : ℕ → ℕ → ℕ
insert s zero = 1 + 2 * (s / 2)
insert s (suc i) = s % 2 + 2 * insert (s / 2) i

-- the set of condition i alone
abbrev pub singleton : ℕ → ℕ
singleton i = insert 0 i

-- the shape without the conditions of t
abbrev pub without : ℕ → List ℕ → List ℕ
without t [] = []
without t (k ∷ ks) = pick (has t 0) 1 k ∷ without (t / 2) ks

-- cells c and d have the same values outside the set t
abbrev pub agree_outside : List ℕ → ℕ → ℕ → ℕ → Bool
agree_outside [] t c d = true
agree_outside (k ∷ ks) t c d = (eqb (t % 2) 1 || eqb (c % k) (d % k)) && agree_outside ks (t / 2) (c / k) (d / k)

-- a table over the shape b, from one over a
abbrev pub moved : List ℕ → List ℕ → List ℕ → List ℕ
moved a b f = tabulate (cells b) (λ c. at f (remap b a c))

-- 01, Joins: a function that does not depend on the set t. In the field: independence of a set of variables
abbrev pub Blind : List ℕ → ℕ → (ℕ → ℕ) → Type 0
Blind ks t f = (c d : ℕ) → c < cells ks → d < cells ks → T (agree_outside ks t c d) → f c ≡ f d

-- the operation over a and f d for every d below n that passes the test
abbrev pub over_to : (ℕ → ℕ → ℕ) → (ℕ → Bool) → (ℕ → ℕ) → ℕ → ℕ → ℕ
over_to op p f a zero = a
over_to op p f a (suc d) = op (over_to op p f a d) (pick (p d) (f d) a)

-- 01, Joins, "over T": at each cell the operation over all cells with the same values outside t.
-- In the field: abstraction (quantification) by max or by min over the variables of t
abbrev pub over : (ℕ → ℕ → ℕ) → List ℕ → ℕ → List ℕ → List ℕ
over op ks t f = tabulate (cells ks) (λ c. over_to op (agree_outside ks t c) (at f) (at f c) (cells ks))

-- the greatest, and the least, over t
abbrev pub greatest_over : List ℕ → ℕ → List ℕ → List ℕ
greatest_over = over max

abbrev pub least_over : List ℕ → ℕ → List ℕ → List ℕ
least_over = over min
