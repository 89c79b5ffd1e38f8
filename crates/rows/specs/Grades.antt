-- Where the grades are that extremes are taken of, and where the answers go.
use Rattle.std.specs.Prelude.{ℕ, ◌+◌, ◌≤◌, ◌≡◌, List, [], ◌∷◌, ◌⊎◌, length}

-- the slice that holds the grades: the one that is lent for them or, where that has no byte, the one of the answers
abbrev pub source : List ℕ → List ℕ → List ℕ
source [] w = w
source (g ∷ gs) w = g ∷ gs

-- of one slice, m grades at from and n answers at to start at the same byte or have none in common
abbrev pub Aside : List ℕ → ℕ → ℕ → ℕ → ℕ → Type 0
Aside [] from m to n = (from ≡ to) ⊎ ((from + m ≤ to) ⊎ (to + n ≤ from))
Aside (g ∷ gs) from m to n = Unit {0}

-- m grades at from, and room for n answers at to
pub record Room (lent w : List ℕ) (from m to n : ℕ) : Type 0 where
  pub src : from + m ≤ length (source lent w)
  pub dst : to + n ≤ length w
  pub aside : Aside lent from m to n

-- the same for as many answers
abbrev pub Reads : List ℕ → List ℕ → ℕ → ℕ → ℕ → Type 0
Reads lent w from to n = Room lent w from n to n

-- n grades at from, in the lent slice or beside the n answers between low and high
abbrev pub RowBeside : List ℕ → List ℕ → List ℕ → ℕ → ℕ → Type 0
RowBeside [] low high from n = (from + n ≤ length low) ⊎ ((length low + n ≤ from) × (from ≤ length low + length high))
RowBeside (g ∷ gs) low high from n = from + n ≤ length (g ∷ gs)
