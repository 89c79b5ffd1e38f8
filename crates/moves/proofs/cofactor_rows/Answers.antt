-- `moves::cofactor_rows` meets its contract.
use Prim.Native.Nat.{ℕ, ◌+◌, ◌*◌, ◌/◌, ◌≤◌}
use mathlib.Core.Path.{◌≡◌, ◌∙◌, ap}
use native.Mathlib.Nat.{mul-zero, div-le_self}
use native.Mathlib.Omega.{arith}
use borrow.Author.Rules.{rules}
use Rattle.tables.specs.Part.{Two}
use Rattle.tables.proofs.PartLaws.{filled_none, filled_all}
use Rattle.moves.proofs.RowLaws.{taken-room, taken_more, rows_all, row_number}
use Rattle.moves.proofs.cofactor_rows.Goals.{In-loop-r}
use Rattle.moves.proofs.cofactor_rows.Goals as goal

pub nonzero_div-count : goal.nonzero_div-count
nonzero_div-count c = c.requires.1.some

pub loop-r-init : goal.loop-r-init
loop-r-init c = (search rules, rw mul-zero (filled_none _ _ _))

-- row r
room : (c : In-loop-r) → let s = c.args in let l = c.loop-r in
    Two l.w (s.from + s.step * (s.k + s.card * l.r)) (s.to + s.step * l.r) s.step
room c =
    taken-room c.requires.0 c.requires.1 c.requires.2 c.loop-r-test.true c.loop-r.invariant.1

number : (c : In-loop-r) → let s = c.args in let l = c.loop-r in
    s.k + s.card * l.r ≤ s.step * (s.k + s.card * l.r)
number c = row_number c.requires.1 c.requires.0 c.loop-r-test.true

pub overflow_mul-card : goal.overflow_mul-card
overflow_mul-card c = let p = (room (goal.at.overflow_mul-card c).In-loop-r).src in let q = number (goal.at.overflow_mul-card c).In-loop-r in omega arith

pub overflow_add-k : goal.overflow_add-k
overflow_add-k c = let p = (room (goal.at.overflow_add-k c).In-loop-r).src in let q = number (goal.at.overflow_add-k c).In-loop-r in omega arith

pub overflow_mul-step : goal.overflow_mul-step
overflow_mul-step c = let p = (room (goal.at.overflow_mul-step c).In-loop-r).src in omega arith

pub overflow_add-from : goal.overflow_add-from
overflow_add-from c = let p = (room (goal.at.overflow_add-from c).In-loop-r).src in omega arith

pub overflow_mul-step-in-loop-r : goal.overflow_mul-step-in-loop-r
overflow_mul-step-in-loop-r c = let p = (room (goal.at.overflow_mul-step-in-loop-r c).In-loop-r).dst in omega arith

pub overflow_add-to : goal.overflow_add-to
overflow_add-to c = let p = (room (goal.at.overflow_add-to c).In-loop-r).dst in omega arith

pub copy-requires : goal.copy-requires
copy-requires c = room (goal.at.copy-requires c).In-loop-r

pub overflow_step-r : goal.overflow_step-r
overflow_step-r c =
    let p = c.requires.2.dst in
    omega (arith, div-le_self c.args.n c.args.step)

pub loop-r-preserved : goal.loop-r-preserved
loop-r-preserved c =
    (search rules, taken_more c.requires.0 c.requires.1 c.requires.2 c.loop-r-test.true c.loop-r.invariant.1 c.copy.ensures)

pub returns : goal.returns
returns c =
    let e : c.loop-r.r ≡ c.args.n / c.args.step = omega arith in
    filled_all c.args.n (ap (λ (x : ℕ). c.args.step * x) e ∙ rows_all c.requires.1) c.loop-r.invariant.1
