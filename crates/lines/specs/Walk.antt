-- A test of the cells of a table, each on its line along one condition.
use Rattle.std.specs.Prelude.{ℕ, ◌*◌, ◌≤◌, ◌<◌, ◌≡◌, Bool}
use Rattle.lines.specs.Along.{Stands}
use Rattle.lines.specs.declared.Along.{Along}

-- a condition of `card` values, `step` cells apart, in blocks that fit a table
pub record Lined (step card : ℕ) : Type 0 where
  pub steps : 0 < step
  pub some : 0 < card
  pub few : step * card ≤ 1024

-- cell c on its line along such a condition
pub record OnLine (step card c : ℕ) (on : Along) : Type 0 where
  pub step_is : on.step ≡ step
  pub card-is : on.card ≡ card
  pub stands : Stands c on

-- a test may be made at each of n cells
abbrev pub Takes : (ℕ → Along → Type 0) → ℕ → ℕ → ℕ → Type 0
Takes pre n step card = (c : ℕ) (on : Along) → c < n → OnLine step card c on → pre c on

-- it gave r at cell c
pub record Gave (post : ℕ → Along → Bool → Type 0) (step card c : ℕ) (r : Bool) : Type 0 where
  pub on : Along
  pub line : OnLine step card c on
  pub met : post c on r

-- at each of n cells
abbrev pub AllGave : (ℕ → Along → Bool → Type 0) → ℕ → ℕ → ℕ → Bool → Type 0
AllGave post n step card r = (c : ℕ) → c < n → Gave post step card c r

-- at one of them
pub record SomeGave (post : ℕ → Along → Bool → Type 0) (n step card : ℕ) (r : Bool) : Type 0 where
  pub cell : ℕ
  pub within : cell < n
  pub gave : Gave post step card cell r
