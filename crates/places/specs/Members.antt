-- Members of a set of conditions.
use Rattle.std.specs.Prelude.{ℕ, ◌≤◌, ◌<◌, List, T}
use Rattle.rules.specs.Cell.{present, has}

-- the lowest member of a set, or 8
pub record LowestMember (set r : ℕ) : Type 0 where
  pub top : r ≤ 8
  pub member : r < 8 → T (has set r)
  pub none : (j : ℕ) → j < r → T (has set j) → ⊥

-- the highest member of a set that has one
pub record HighestMember (set r : ℕ) : Type 0 where
  pub top : r < 8
  pub member : (j : ℕ) → j < 8 → T (has set j) → T (has set r)
  pub none : (j : ℕ) → r < j → j < 8 → T (has set j) → ⊥

-- so many low places, and no more, have no condition but members
pub record MemberRun (ks : List ℕ) (set r : ℕ) : Type 0 where
  pub top : r ≤ 8
  pub inside : (j : ℕ) → j < r → T (present ks j) → T (has set j)
  pub next : r < 8 → T (present ks r) × (T (has set r) → ⊥)
