-- Request 6: sets of grades. A set is a number of sixteen bits; `has` of Cell says whether grade g, bit g, is a member.
use Rattle.std.specs.Prelude.{ℕ, zero, suc, ◌+◌, ◌*◌, ◌/◌, ◌≤◌, ◌<◌, Bool, not, ◌&&◌, T, ltb, eqb}
use Rattle.rules.specs.Bytes.{pick}
use Rattle.rules.specs.Cell.{has}

-- the set of the grades from l to u
abbrev pub span : ℕ → ℕ → ℕ
span zero zero = 1
span zero (suc u) = 1 + 2 * span zero u
span (suc l) zero = 0
span (suc l) (suc u) = 2 * span l u

-- the least grade of a set whose grades are below n, n where it has none; the greatest of one that has some
abbrev pub least_to : ℕ → ℕ → ℕ
least_to zero s = 0
least_to (suc n) s = pick (has s 0) 0 (suc (least_to n (s / 2)))

abbrev pub greatest_to : ℕ → ℕ → ℕ
greatest_to zero s = 0
greatest_to (suc n) s = pick (eqb (s / 2) 0) 0 (suc (greatest_to n (s / 2)))

abbrev pub least_grade : ℕ → ℕ
least_grade = least_to 16

abbrev pub greatest_grade : ℕ → ℕ
greatest_grade = greatest_to 16

-- what 13 lets pass: a set that is not empty, has every grade from its least to its greatest, and has them below m. A gap is never filled:
-- limits around it would let in grades that the set leaves out
abbrev pub set_sound : ℕ → ℕ → Bool
set_sound m s = not (eqb s 0) && (eqb s (span (least_grade s) (greatest_grade s)) && ltb (greatest_grade s) m)

-- What is claimed of it: the same, member by member. Some grade is in the set, every grade between two that are, and none from m on.
pub record Gapless (m s : ℕ) : Type 0 where
  pub some : (g : ℕ) × T (has s g)
  pub between : (a g b : ℕ) → a ≤ g → g ≤ b → T (has s a) → T (has s b) → T (has s g)
  pub below : (g : ℕ) → T (has s g) → g < m
