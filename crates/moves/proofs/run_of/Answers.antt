-- `moves::run_of` meets its contract.
use Prim.Native.Nat.{ℕ, ◌+◌, ◌*◌}
use mathlib.Core.Path.{◌≡◌, refl, sym, ◌∙◌}
use mathlib.Core.Bool.{false≢true}
use mathlib.Core.List.{List}
use native.Mathlib.Omega.{arith}
use lib.ListN.{length}
use borrow.Author.Rules.{rules}
use Rattle.std.proofs.Common.{length-append}
use Rattle.std.proofs.lemmas.Slice.Zip.{zip_turn}
use Rattle.moves.proofs.MoveLaws.{flag, Growing, growing_none, growing_more, runs_low, runs_first-low, run}
use Rattle.moves.proofs.run_of.Given.{Over}
use Rattle.moves.proofs.run_of.Goals.{Else-ends_run}
use Rattle.moves.proofs.run_of.Goals as goal

pub loop-k-init : goal.loop-k-init
loop-k-init g c = growing_none (flag g.row.ALONG) c.args.a c.args.b

pub returns-then-ends_run : goal.returns-then-ends_run
returns-then-ends_run g c = c.loop-k.invariant.run_is

pub returns : goal.returns
returns g c = c.loop-k.invariant.run_is

-- the run with the place of a round
grown : (g : Over) (c : Else-ends_run g)
    → Growing c.args.a c.args.b (flag g.row.ALONG) (length c.loop-k.yielded + 1) (run (c.loop-k.run.places + 1) (c.loop-k.run.cells * c.in-Some.k.now) (c.loop-k.run.first * c.in-Some.l.now))
grown g c =
    let b : List ℕ = c.args.b in
    let a : List ℕ = c.args.a in
    let t =
    zip_turn b a c.loop-k.yielded c.into_iter-k-iterator.result c.loop-k.k-iterator c.next.new.self c.next.result
    (search rules) (search rules) c.loop-k.yielded_by (c.in-Some.k, c.in-Some.l) c.in-Some.is c.next.ensures.steps in
    rw (t.2 0, t.3 0)
    (growing_more c.requires.0 c.requires.1 (omega (arith, t.0)) (omega (arith, t.1)) (omega (arith, t.0)) (flag g.row.ALONG)
    (λ e. false≢true (sym c.if-ends_run.false ∙ c.ends_run.ensures.1 (rw (t.2 0, t.3 0) e)))
    c.loop-k.invariant)

-- what it is by the numbers that the round read
laid : (g : Over) (c : Else-ends_run g) (k l : ℕ) → k ≡ c.in-Some.k.now → l ≡ c.in-Some.l.now
    → Growing c.args.a c.args.b (flag g.row.ALONG) (length c.loop-k.yielded + 1) (run (c.loop-k.run.places + 1) (c.loop-k.run.cells * k) (c.loop-k.run.first * l))
laid g c k l ek el = rw (ek, el) (grown g c)

pub overflow_mul-run : goal.overflow_mul-run
overflow_mul-run g c =
    let o = (goal.at.overflow_mul-run g c).Else-ends_run in
    omega (arith, runs_low (laid g o c.from.result c.in-Some.l.now c.from.ensures refl).run_is c.requires.1)

pub overflow_mul-run-in-loop-k : goal.overflow_mul-run-in-loop-k
overflow_mul-run-in-loop-k g c =
    let o = (goal.at.overflow_mul-run-in-loop-k g c).Else-ends_run in
    omega (arith, runs_first-low (laid g o c.in-Some.k.now c.from-in-loop-k.result refl c.from-in-loop-k.ensures).run_is c.requires.0)

pub loop-k-preserved : goal.loop-k-preserved
loop-k-preserved g c =
    rw length-append (laid g (goal.at.loop-k-preserved g c).Else-ends_run c.from.result c.from-in-loop-k.result c.from.ensures c.from-in-loop-k.ensures)
