-- `network::first_outside` meets its contract.
use Prim.Native.Nat.{ℕ, ◌-◌, ◌/◌, ◌≤◌, ◌<◌}
use mathlib.Core.Path.{◌≡◌, sym, ap, ap₂, subst, ◌∙◌}
use mathlib.Core.Bool.{◌&&◌}
use mathlib.Core.List.{List}
use native.Mathlib.Nat.{le_refl}
use native.Mathlib.Omega.{arith}
use lib.Dec.{leb}
use lib.ListN.{length, take}
use Rattle.std.proofs.lemmas.Iterator.{YieldsList-from_slice, YieldsList-from_zip}
use Rattle.std.proofs.lemmas.Iterator.Consumers.{YieldsList-from_enumerate, YieldsList-turn, YieldsList-end}
use Rattle.std.proofs.lemmas.List.{length_push}
use Rattle.rules.specs.Bytes.{Past}
use Rattle.rules.specs.Limits.{Limits, limits_of}
use Rattle.rules.specs.Network.{evaluate}
use Rattle.rules.specs.NetworkCalls.{grade_within, outside, check_from}
use Rattle.laws.proofs.ByteLaws.{past_same, past_then}
use Rattle.shape.specs.Shapes.{places_of}
use Rattle.network.proofs.CellsLaws.{numbered-long, numbered-at}
use Rattle.network.proofs.CheckLaws.{cell_within, check_next, check_stop, check_end}
use Rattle.network.proofs.first_outside.Goals.{After-grade_within}
use Rattle.network.proofs.first_outside.Goals as goal

pub loop-cell-init : goal.loop-cell-init
loop-cell-init c =
    let a = c.args in
    let n = c.cells-cells.result in
    let whole : n ≡ n - 0 = omega arith in
    (past_same, ap (check_from (places_of a.shape) (limits_of a.lower.now a.upper.now) a.network.now 0) whole)

-- what a round goes over: its cell is the number of those before it, and its limits stand there
record Round (c : After-grade_within) : Type 0 where
  here : length c.loop-cell.yielded < c.cells-cells.result
  cell-is : c.in-Some.cell ≡ length c.loop-cell.yielded
  grade-is : c.grade_at-grade.result ≡ evaluate (places_of c.args.shape) c.args.network.now (length c.loop-cell.yielded)
  within-is : cell_within (places_of c.args.shape) (limits_of c.args.lower.now c.args.upper.now) c.args.network.now (length c.loop-cell.yielded) ≡ c.grade_within.result
  kept : Past (length c.args.network.now / 16) c.args.work.now c.grade_at-grade.new.work

round : (c : After-grade_within) → Round c
round c =
    let a = c.args in
    let n = c.cells-cells.result in
    let i = length c.loop-cell.yielded in
    let low : n ≤ length a.lower.now = omega (arith, c.cells-cells.ensures, c.requires.lower-room) in
    let high : n ≤ length a.upper.now = omega (arith, c.cells-cells.ensures, c.requires.upper-room) in
    let all = YieldsList-from_enumerate (YieldsList-from_zip (YieldsList-from_slice (take n a.lower.now) cc) (YieldsList-from_slice (take n a.upper.now) cc)) cc in
    let t = YieldsList-turn all c.loop-cell.yielded c.loop-cell.cell-iterator c.loop-cell.yielded_by _ c.next.new.self (c.in-Some.cell, (c.in-Some.least, c.in-Some.greatest)) c.in-Some.is c.next.ensures.steps in
    let before : i < n = subst (λ (k : ℕ). i < k) (numbered-long n a.lower.now a.upper.now low high) t.0 in
    let there = numbered-at n a.lower.now a.upper.now low high i c.in-Some.cell c.in-Some.least.now c.in-Some.greatest.now before t.1 in
    let found : c.grade_at-grade.result ≡ evaluate (places_of a.shape) a.network.now i = c.grade_at-grade.ensures.right ∙ ap (evaluate (places_of a.shape) a.network.now) there.0 in
    let grade = c.grade_at-grade.result in
    record {
      here = before;
      cell-is = there.0;
      grade-is = found;
      within-is =
          sym (c.grade_within.ensures ∙ ap₂ (λ (x y : ℕ). leb x grade && leb grade y) there.1 there.2 ∙ ap (grade_within (limits_of a.lower.now a.upper.now) i) found);
      kept = past_then c.loop-cell.invariant.0 c.grade_at-grade.ensures.kept;
    }

pub returns-then-not-grade_within : goal.returns-then-not-grade_within
returns-then-not-grade_within c =
    let a = c.args in
    let l = c.loop-cell in
    let r = round (goal.at.returns-then-not-grade_within c).After-grade_within in
    let ks : List ℕ = places_of a.shape in
    let limits : Limits = limits_of a.lower.now a.upper.now in
    record {
      kept = r.kept;
      finds =
          ap₂ outside r.cell-is r.grade-is
          ∙ sym
          (ap (check_from ks limits a.network.now 0) (sym c.cells-cells.ensures) ∙ l.invariant.1
          ∙ check_stop ks limits a.network.now (length l.yielded) c.cells-cells.result r.here (r.within-is ∙ c.if-not-grade_within.true));
    }

pub loop-cell-preserved : goal.loop-cell-preserved
loop-cell-preserved c =
    let a = c.args in
    let l = c.loop-cell in
    let r = round (goal.at.loop-cell-preserved c).After-grade_within in
    let ks : List ℕ = places_of a.shape in
    let limits : Limits = limits_of a.lower.now a.upper.now in
    let n = c.cells-cells.result in
    let more = length_push l.yielded (c.in-Some.cell, (c.in-Some.least, c.in-Some.greatest)) in (
      r.kept,
      l.invariant.1
          ∙ check_next ks limits a.network.now (length l.yielded) n r.here (r.within-is ∙ c.if-not-grade_within.false)
          ∙ ap (λ (i : ℕ). check_from ks limits a.network.now i (n - i)) (sym more),
    )

pub returns : goal.returns
returns c =
    let a = c.args in
    let l = c.loop-cell in
    let n = c.cells-cells.result in
    let low : n ≤ length a.lower.now = omega (arith, c.cells-cells.ensures, c.requires.lower-room) in
    let high : n ≤ length a.upper.now = omega (arith, c.cells-cells.ensures, c.requires.upper-room) in
    let all = YieldsList-from_enumerate (YieldsList-from_zip (YieldsList-from_slice (take n a.lower.now) cc) (YieldsList-from_slice (take n a.upper.now) cc)) cc in
    let t = YieldsList-end all l.yielded l.cell-iterator l.yielded_by _ c.next.new.self c.in-None.is c.next.ensures.steps in
    let ks : List ℕ = places_of a.shape in
    let limits : Limits = limits_of a.lower.now a.upper.now in
    let past : n ≤ length l.yielded = subst (λ (k : ℕ). n ≤ k) (sym (t.1 ∙ numbered-long n a.lower.now a.upper.now low high)) (le_refl n) in
    record {
      kept = l.invariant.0;
      finds = sym (ap (check_from ks limits a.network.now 0) (sym c.cells-cells.ensures) ∙ l.invariant.1 ∙ check_end ks limits a.network.now (length l.yielded) n past);
    }
