-- `stage_steps::value_rows::give` meets its contract. It ends because there are fewer rows each time.
use Prim.Native.Nat.{ℕ}
use mathlib.Core.Path.{refl}
use native.Mathlib.Omega.{arith}
use borrow.Author.Rules.{rules}
use Rattle.stage_steps.proofs.LayLaws.{OneRow, one-row, row_given, half_room, rest-room, halves_given}
use Rattle.stage_steps.proofs.value_rows.+give.Goals.{Then-last-first-eq1}
use Rattle.stage_steps.proofs.value_rows.+give.Goals as goal

pub overflow_sub-last : goal.overflow_sub-last
overflow_sub-last t c = let h = c.requires.some in omega arith

-- the one row that is left
row : (t : ℕ) (c : Then-last-first-eq1 t) → let s = c.args in OneRow s.w.now s.step s.values s.c s.k s.first
row t c = one-row c.requires c.if-last-first-eq1.true

pub overflow_mul-c : goal.overflow_mul-c
overflow_mul-c t c = let r = row t (goal.at.overflow_mul-c t c).Then-last-first-eq1 in omega arith

pub overflow_mul-step : goal.overflow_mul-step
overflow_mul-step t c = let r = row t (goal.at.overflow_mul-step t c).Then-last-first-eq1 in omega arith

pub overflow_add-c : goal.overflow_add-c
overflow_add-c t c = let r = row t (goal.at.overflow_add-c t c).Then-last-first-eq1 in omega arith

pub overflow_mul-c-then-last-first-eq1 : goal.overflow_mul-c-then-last-first-eq1
overflow_mul-c-then-last-first-eq1 t c = let r = row t (goal.at.overflow_mul-c-then-last-first-eq1 t c).Then-last-first-eq1 in omega arith

pub overflow_mul-values : goal.overflow_mul-values
overflow_mul-values t c = let r = row t (goal.at.overflow_mul-values t c).Then-last-first-eq1 in omega arith

pub overflow_add-k : goal.overflow_add-k
overflow_add-k t c = let r = row t (goal.at.overflow_add-k t c).Then-last-first-eq1 in omega arith

pub overflow_mul-step-then-last-first-eq1 : goal.overflow_mul-step-then-last-first-eq1
overflow_mul-step-then-last-first-eq1 t c = let r = row t (goal.at.overflow_mul-step-then-last-first-eq1 t c).Then-last-first-eq1 in omega arith

pub overflow_add-c-then-last-first-eq1 : goal.overflow_add-c-then-last-first-eq1
overflow_add-c-then-last-first-eq1 t c = let r = row t (goal.at.overflow_add-c-then-last-first-eq1 t c).Then-last-first-eq1 in omega arith

pub copy-requires : goal.copy-requires
copy-requires t c = (row t (goal.at.copy-requires t c).Then-last-first-eq1).room

pub overflow_sub-middle : goal.overflow_sub-middle
overflow_sub-middle t c = let h = c.requires.some in omega arith

pub overflow_add-middle : goal.overflow_add-middle
overflow_add-middle t c = let h = c.requires.some in search rules

pub give-requires : goal.give-requires
give-requires t c =
    let b = c.before in
    let g = half_room b.requires c.if-last-first-eq1.false refl in
    (let h = b.requires.some in let l = c.if-last-first-eq1.false in omega arith, g)

pub give-requires-else-last-first-eq1 : goal.give-requires-else-last-first-eq1
give-requires-else-last-first-eq1 t c =
    let b = c.before in
    let l = c.if-last-first-eq1.false in
    (let h = b.requires.some in omega arith, rest-room b.requires l refl c.give.ensures)

pub returns-then-last-first-eq1 : goal.returns-then-last-first-eq1
returns-then-last-first-eq1 t c = row_given c.requires c.if-last-first-eq1.true c.copy.ensures

pub returns-else-last-first-eq1 : goal.returns-else-last-first-eq1
returns-else-last-first-eq1 t c =
    halves_given c.requires c.if-last-first-eq1.false refl c.give.ensures c.give-else-last-first-eq1.ensures
