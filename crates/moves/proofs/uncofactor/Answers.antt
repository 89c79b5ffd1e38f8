-- `moves::uncofactor` meets its contract.
use Prim.Native.Nat.{ℕ, ◌+◌, ◌*◌, ◌<◌}
use mathlib.Core.Path.{◌≡◌, subst}
use native.Mathlib.Omega.{arith}
use borrow.Author.Rules.{rules}
use Rattle.rules.specs.Bytes.{at}
use Rattle.laws.proofs.UnionLaws.{digit-below}
use Rattle.tables.specs.Part.{part}
use Rattle.tables.specs.Line.{Spread}
use Rattle.tables.proofs.LineLaws.{spread_none, spread_more, read_spread}
use Rattle.moves.proofs.uncofactor.Goals.{In-loop-c}
use Rattle.moves.proofs.uncofactor.Goals as goal

pub loop-c-init : goal.loop-c-init
loop-c-init c = (search rules, spread_none _ _ _ _)

-- the cell that is written is one of the larger table's
inside : (c : In-loop-c) → let s = c.args in s.k + s.card * c.loop-c.c < s.card * s.n
inside c =
    digit-below c.args.card c.args.k c.loop-c.c c.args.n c.requires.0 c.loop-c-test.true

pub overflow_add-w-in-loop-c : goal.overflow_add-w-in-loop-c
overflow_add-w-in-loop-c c = let d = c.requires.1.dst in omega (arith, inside (goal.at.overflow_add-w-in-loop-c c).In-loop-c)

pub overflow_mul-w : goal.overflow_mul-w
overflow_mul-w c = let d = c.requires.1.dst in omega (arith, inside (goal.at.overflow_mul-w c).In-loop-c)

pub overflow_add-w-in-loop-c-2 : goal.overflow_add-w-in-loop-c-2
overflow_add-w-in-loop-c-2 c = let d = c.requires.1.dst in omega (arith, inside (goal.at.overflow_add-w-in-loop-c-2 c).In-loop-c)

pub bounds-w-to : goal.bounds-w-to
bounds-w-to c = let d = c.requires.1.dst in omega (arith, inside (goal.at.bounds-w-to c).In-loop-c, c.loop-c.invariant.1.len)

pub loop-c-preserved : goal.loop-c-preserved
loop-c-preserved c =
    let l = c.loop-c in
    let d = c.requires.1.dst in (
      search rules,
      spread_more _ l.invariant.1 (omega arith) (omega (arith, inside (goal.at.loop-c-preserved c).In-loop-c)) (read_spread c.requires.1 c.requires.0 l.invariant.1 (omega arith) l.c (omega arith)),
    )

pub returns : goal.returns
returns c =
    let s = c.args in
    let e : c.loop-c.c ≡ s.n = omega arith in
    subst (λ (m : ℕ). Spread s.w.now (s.to + s.k) s.card (at (part s.w.now s.from s.n)) m c.loop-c.w) e c.loop-c.invariant.1
