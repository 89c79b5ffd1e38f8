-- `moves::cofactor` meets its contract.
use Prim.Native.Nat.{◌+◌, ◌*◌, ◌<◌}
use native.Mathlib.Omega.{arith}
use borrow.Author.Rules.{rules}
use Rattle.laws.proofs.UnionLaws.{digit-below}
use Rattle.tables.proofs.PartLaws.{filled_none, filled_more, filled_all, read_part}
use Rattle.moves.proofs.cofactor.Goals.{In-loop-c}
use Rattle.moves.proofs.cofactor.Goals as goal

pub loop-c-init : goal.loop-c-init
loop-c-init c = (search rules, filled_none _ _ _)

-- the cell that is read is one of the larger table's
inside : (c : In-loop-c) → let s = c.args in s.k + s.card * c.loop-c.c < s.card * s.n
inside c =
    digit-below c.args.card c.args.k c.loop-c.c c.args.n c.requires.0 c.loop-c-test.true

pub overflow_mul-w : goal.overflow_mul-w
overflow_mul-w c = let s = c.requires.1.src in omega (arith, inside (goal.at.overflow_mul-w c).In-loop-c)

pub overflow_add-w : goal.overflow_add-w
overflow_add-w c = let s = c.requires.1.src in omega (arith, inside (goal.at.overflow_add-w c).In-loop-c)

pub overflow_add-w-in-loop-c : goal.overflow_add-w-in-loop-c
overflow_add-w-in-loop-c c = let s = c.requires.1.src in omega (arith, inside (goal.at.overflow_add-w-in-loop-c c).In-loop-c)

pub bounds-w-from : goal.bounds-w-from
bounds-w-from c = let s = c.requires.1.src in omega (arith, inside (goal.at.bounds-w-from c).In-loop-c, c.loop-c.invariant.1.len)

pub loop-c-preserved : goal.loop-c-preserved
loop-c-preserved c =
    let l = c.loop-c in
    let d = c.requires.1.dst in
    (search rules, filled_more _ l.invariant.1 (omega arith) (read_part c.requires.1 l.invariant.1 (omega arith) _ (inside (goal.at.loop-c-preserved c).In-loop-c)))

pub returns : goal.returns
returns c = filled_all c.args.n (omega arith) c.loop-c.invariant.1
