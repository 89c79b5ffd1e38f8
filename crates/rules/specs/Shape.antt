-- 01, Tables and cells: which shapes there are. `n` conditions, eight bytes `cards` of cardinalities, `m` grades.
use Rattle.std.specs.Prelude.{ℕ, max, Bool, ◌&&◌, cond, List, [], ◌∷◌, leb, ltb, eqb}
use Rattle.rules.specs.Bytes.{at, all}
use Rattle.rules.specs.Cell.{cells}

-- the shape's maxima
abbrev pub max_conditions : ℕ
max_conditions = 8

abbrev pub max_cardinality : ℕ
max_cardinality = 8

abbrev pub max_grades : ℕ
max_grades = 16

abbrev pub max_cells : ℕ
max_cells = 1024

-- the byte of place i: a cardinality if there is a condition i, else 0
abbrev pub place_sound : ℕ → ℕ → ℕ → Bool
place_sound n i k = cond (ltb i n) (leb 2 k && leb k max_cardinality) (eqb k 0)

-- the eight bytes as the places of `Cell`: cardinality 1 where there is no condition
abbrev pub places : List ℕ → List ℕ
places [] = []
places (k ∷ ks) = max 1 k ∷ places ks

-- what row 4 of "Places where a call stops" lets pass
abbrev pub shape_sound : ℕ → List ℕ → ℕ → Bool
shape_sound n cards m =
    leb n max_conditions
    && (all 8 (λ i. place_sound n i (at cards i)) && ((leb 2 m && leb m max_grades) && leb (cells (places cards)) max_cells))
