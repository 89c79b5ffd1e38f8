-- `moves::moved_runs` meets its contract.
use Prim.Native.Nat.{ℕ, ◌+◌, ◌*◌, ◌/◌}
use mathlib.Core.Path.{◌≡◌, ◌∙◌, ap}
use native.Mathlib.Nat.{mul-zero, div-le_self}
use native.Mathlib.Omega.{arith}
use borrow.Author.Rules.{rules}
use Rattle.rules.specs.Bytes.{pick}
use Rattle.tables.specs.Part.{Apart}
use Rattle.moves.proofs.MoveLaws.{flag, flag_on, flag_off, Laying, laying_none, laying_one, laying_all, runs_some, runs_begin, runs_all}
use Rattle.moves.proofs.MoveLaws.{lower-apart, lower-more, upper-apart, upper-more}
use Rattle.moves.proofs.moved_runs.Given.{Over}
use Rattle.moves.proofs.moved_runs.Goals.{After-lay_run, In-loop-r, Then-this-ne0, then-this-ne0, else-this-ne0}
use Rattle.moves.proofs.moved_runs.Goals as goal

pub nonzero_div-count : goal.nonzero_div-count
nonzero_div-count g c = let p = c.requires in runs_some p.1 p.0.shaped

pub loop-r-init : goal.loop-r-init
loop-r-init g c = let p = c.requires in (search rules, runs_begin p.0 p.1, rw mul-zero (laying_none _ _ _ _ _ _ _ _))

-- run r of the first table
first : (g : Over) (c : In-loop-r g)
    → let s = c.args in let l = c.loop-r in
    Apart l.w (s.low + l.d) (pick (flag g.row.ALONG) s.run.cells 1) (s.to + s.run.cells * l.r) s.run.cells
first g c =
    let p = c.requires in
    let i = c.loop-r.invariant in
    lower-apart p.0 p.1 c.loop-r-test.true i.1 i.2

pub overflow_add-low : goal.overflow_add-low
overflow_add-low g c = let p = (first g (goal.at.overflow_add-low g c).In-loop-r).src in omega arith

pub overflow_mul-len : goal.overflow_mul-len
overflow_mul-len g c = let p = (first g (goal.at.overflow_mul-len g c).In-loop-r).dst in omega arith

pub overflow_add-to : goal.overflow_add-to
overflow_add-to g c = let p = (first g (goal.at.overflow_add-to g c).In-loop-r).dst in omega arith

pub lay_run-requires : goal.lay_run-requires
lay_run-requires g c = first g (goal.at.lay_run-requires g c).In-loop-r

-- what stands there then
half : (g : Over) (c : After-lay_run g)
    → let s = c.args in let l = c.loop-r in
    Laying s.w.now s.a s.b s.n s.low s.high s.to (flag g.row.BOTH) (s.run.cells * (l.r + 1)) (s.run.cells * l.r)
    c.lay_run.new.w
half g c =
    let p = c.requires in
    let i = c.loop-r.invariant in
    lower-more p.0 p.1 c.loop-r-test.true i.1 i.2 c.lay_run.ensures

-- run r of the second
second : (g : Over) (c : Then-this-ne0 g)
    → let s = c.args in let l = c.loop-r in
    Apart c.lay_run.new.w (s.high + l.d) (pick (flag g.row.ALONG) s.run.cells 1)
    (s.to + s.n + s.run.cells * l.r) s.run.cells
second g c =
    let p = c.requires in
    let i = c.loop-r.invariant in
    upper-apart p.0 p.1 c.loop-r-test.true i.1 (flag_on g.row.BOTH c.if-this-ne0.true) (lower-more p.0 p.1 c.loop-r-test.true i.1 i.2 c.lay_run.ensures)

pub overflow_add-high : goal.overflow_add-high
overflow_add-high g c = let p = (second g (goal.at.overflow_add-high g c).Then-this-ne0).src in omega arith

pub overflow_add-to-then-this-ne0 : goal.overflow_add-to-then-this-ne0
overflow_add-to-then-this-ne0 g c = let p = (second g (goal.at.overflow_add-to-then-this-ne0 g c).Then-this-ne0).dst in omega arith

pub overflow_mul-len-then-this-ne0 : goal.overflow_mul-len-then-this-ne0
overflow_mul-len-then-this-ne0 g c = let p = (second g (goal.at.overflow_mul-len-then-this-ne0 g c).Then-this-ne0).dst in omega arith

pub overflow_add-to-then-this-ne0-2 : goal.overflow_add-to-then-this-ne0-2
overflow_add-to-then-this-ne0-2 g c = let p = (second g (goal.at.overflow_add-to-then-this-ne0-2 g c).Then-this-ne0).dst in omega arith

pub lay_run-requires-then-this-ne0 : goal.lay_run-requires-then-this-ne0
lay_run-requires-then-this-ne0 g c = second g (goal.at.lay_run-requires-then-this-ne0 g c).Then-this-ne0

pub next-d-requires : goal.next-d-requires
next-d-requires g c =
    let p = c.requires in
    (p.0.first, p.0.shaped, p.1.few, p.1.first-is, c.loop-r.invariant.1)

pub overflow_step-r : goal.overflow_step-r
overflow_step-r g c =
    let few = c.requires.0.shaped.few in
    omega (arith, c.requires.0.count, div-le_self c.args.n c.args.run.cells)

pub loop-r-preserved : goal.loop-r-preserved
loop-r-preserved g c =
    let p = c.requires in
    let h = half g (goal.at.loop-r-preserved g c).After-lay_run in (
      search rules,
      c.next-d.ensures,
      elim c.if-this-ne0.branch [
        | then-this-ne0 x ↦ rw x.w-is (upper-more p.0 p.1 c.loop-r-test.true c.loop-r.invariant.1 (flag_on g.row.BOTH x.if-this-ne0.true) h x.lay_run-then-this-ne0.ensures)
        | else-this-ne0 x ↦ rw x.w-is (laying_one (flag_off g.row.BOTH x.if-this-ne0.false) h)
      ],
    )

pub returns : goal.returns
returns g c =
    let s = c.args in
    let p = c.requires in
    let l = c.loop-r in
    let e : l.r ≡ s.n / s.run.cells = omega arith in
    laying_all (flag g.row.BOTH) p.0.count (ap (λ (r : ℕ). s.run.cells * r) e ∙ runs_all p.0 p.1) l.invariant.2
