-- Lists of bytes: what stands at a place, tests of every place, and the records of sixteen bytes that both file formats are made of.
use Rattle.std.specs.Prelude.{ℕ, zero, suc, ◌+◌, ◌-◌, ◌*◌, max, ◌≡◌, Bool, true, false, not, ◌&&◌, List, [], ◌∷◌, ◌++◌, eqb, length, get_or, take, drop}

-- the first number if the test passes, else the second
abbrev pub pick : Bool → ℕ → ℕ → ℕ
pick true a b = a
pick false a b = b

-- what stands at place i, 0 past the end; of a table with one byte for each cell, the byte of cell i
abbrev pub at : List ℕ → ℕ → ℕ
at t i = get_or t i 0

-- the list of f i, f (i + 1), .., n numbers
abbrev pub tabulate_from : (ℕ → ℕ) → ℕ → ℕ → List ℕ
tabulate_from f i zero = []
tabulate_from f i (suc n) = f i ∷ tabulate_from f (suc i) n

-- the table of a function: its values at 0 to n − 1
abbrev pub tabulate : ℕ → (ℕ → ℕ) → List ℕ
tabulate n f = tabulate_from f 0 n

-- the test passes at every place below n
abbrev pub all : ℕ → (ℕ → Bool) → Bool
all zero p = true
all (suc n) p = all n p && p n

-- the test passes at some place below n
abbrev pub some : ℕ → (ℕ → Bool) → Bool
some n p = not (all n (λ i. not (p i)))

-- the greatest number of a list, 0 where there is none
abbrev pub greatest : List ℕ → ℕ
greatest [] = 0
greatest (q ∷ qs) = max q (greatest qs)

-- the numbers i, i + 1, .., n of them
abbrev pub numbers_from : ℕ → ℕ → List ℕ
numbers_from i zero = []
numbers_from i (suc n) = i ∷ numbers_from (suc i) n

-- record k of a file: its sixteen bytes
abbrev pub record_at : List ℕ → ℕ → List ℕ
record_at file k = take 16 (drop (16 * k) file)

-- n records of a file from record k on, each changed
abbrev pub map_records : (List ℕ → List ℕ) → List ℕ → ℕ → ℕ → List ℕ
map_records f file k zero = []
map_records f file k (suc n) = f (record_at file k) ++ map_records f file (suc k) n

-- the bytes from a up to, but not with, b are zero
abbrev pub zeros : List ℕ → ℕ → ℕ → Bool
zeros r a b = all (b - a) (λ j. eqb (at r (a + j)) 0)

-- a number of two bytes, the low byte at place j
abbrev pub word : List ℕ → ℕ → ℕ
word r j = at r j + 256 * at r (j + 1)

-- a buffer's bytes from n on stay, and so does its length: what is promised of a work buffer, whose bytes before n are free
pub record Past (n : ℕ) (before after : List ℕ) : Type 0 where
  pub long : length after ≡ length before
  pub rest : drop n after ≡ drop n before
