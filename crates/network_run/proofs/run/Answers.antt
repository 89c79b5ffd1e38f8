-- `network_run::run` meets its contract.
use Prim.Native.Nat.{ℕ, ◌/◌, ◌<◌}
use mathlib.Core.Path.{◌≡◌, ap, ◌∙◌}
use mathlib.Core.List.{List, []}
use native.Mathlib.Omega.{arith}
use lib.ListN.{length, take, get_or}
use lib.Seq.{length-take-le}
use Rattle.rules.specs.Bytes.{at, record_at}
use Rattle.rules.specs.Cell.{value}
use Rattle.laws.proofs.RecordLaws.{record_read}
use Rattle.shape.specs.Shapes.{places_of}
use Rattle.shape.proofs.ShapeLaws.{shape-positive}
use Rattle.network_run.specs.Grades.{byte_grade}
use Rattle.network_run.proofs.ReadLaws.{readable, value_low}
use Rattle.network_run.proofs.WorkLaws.{run-start, run_more, run-all}
use Rattle.network_run.proofs.run.Goals.{After-values_at-values, In-loop-k}
use Rattle.network_run.proofs.run.Goals as goal

pub values_at-values-requires : goal.values_at-values-requires
values_at-values-requires c = rw c.places.ensures (shape-positive c.args.shape)

-- the values at the cell
same : (c : After-values_at-values) → (i : ℕ) → at c.values_at-values.result i ≡ value (places_of c.args.shape) c.args.cell i
same c i = c.values_at-values.ensures i ∙ ap (λ (ks : List ℕ). value ks c.args.cell i) c.places.ensures

low : (c : In-loop-k) → c.loop-k.k < length c.args.network.now / 16
low c = omega (arith, c.loop-k-test.true, c.as_chunks.ensures.front_len)

-- chunk k is record k
chunk : (c : In-loop-k) → get_or c.as_chunks.result.0.now c.loop-k.k [] ≡ record_at c.args.network.now c.loop-k.k
chunk c = record_read c.args.network.now c.loop-k.k c.as_chunks.ensures.front (low c)

pub loop-k-init : goal.loop-k-init
loop-k-init c = run-start _ _ _

pub record_grade-grade-requires : goal.record_grade-grade-requires
record_grade-grade-requires c =
    let a = c.args in
    let l = c.loop-k in
    let here = (goal.at.record_grade-grade-requires c).In-loop-k in
    rw (chunk here)
    (readable a.shape a.network.now a.work.now c.requires a.cell l.k c.values_at-values.result (take l.k l.work) (low here) (same (goal.at.record_grade-grade-requires c).After-values_at-values)
    (length-take-le l.k l.work (omega (arith, low here, l.auto.work, c.requires.room))))

pub loop-k-preserved : goal.loop-k-preserved
loop-k-preserved c =
    let a = c.args in
    let l = c.loop-k in
    let values = c.values_at-values.result in
    let here = (goal.at.loop-k-preserved c).In-loop-k in
    run_more values a.network.now a.work.now l.k l.work l.invariant (low here) c.requires.room c.record_grade-grade.result
    (c.record_grade-grade.ensures ∙ ap (byte_grade (at values) (take l.k l.work)) (chunk here))

pub returns : goal.returns
returns c =
    let a = c.args in
    let l = c.loop-k in
    let all : l.k ≡ length a.network.now / 16 = omega (arith, c.loop-k-test.false, l.auto.k-end, c.as_chunks.ensures.front_len) in
    run-all c.values_at-values.result a.network.now a.work.now l.k l.work l.invariant (places_of a.shape) a.cell all (same (goal.at.returns c).After-values_at-values)
    (value_low a.shape a.network.now a.work.now c.requires a.cell)
