-- `network_visits::grade_each` meets its contract.
use mathlib.Core.Path.{refl, ap, ◌∙◌}
use native.Mathlib.Nat.{zero-add}
use native.Mathlib.Omega.{arith}
use Rattle.rules.specs.Bytes.{at}
use Rattle.rules.specs.Visits.{visit_byte}
use Rattle.laws.proofs.ByteLaws.{past_same, past_then}
use Rattle.tables.proofs.PartLaws.{filled_none, filled_more}
use Rattle.shape.specs.Shapes.{places_of}
use Rattle.shape.proofs.ShapeLaws.{sound-shape}
use Rattle.network_visits.proofs.VisitLaws.{known_none, visited-all}
use Rattle.network_visits.proofs.grade_each.Goals as goal

pub loop-i-init : goal.loop-i-init
loop-i-init c =
    let shape = c.args.shape in
    record {
      bytes = filled_none _ _ _;
      knows = known_none (places_of shape) c.args.network.now (sound-shape shape c.requires.ready.shape-sound).cells-few;
      kept = past_same;
      none-keeps = λ e. refl;
    }

pub visit-grade-requires : goal.visit-grade-requires
visit-grade-requires c =
    let y = c.requires.ready in
    record {
      ready = record { shape-sound = y.shape-sound; network-sound = y.network-sound; room = omega (arith, y.room, c.loop-i.auto.work) };
      counted = c.cells-count.ensures;
      knows = c.loop-i.invariant.knows;
    }

pub loop-i-preserved : goal.loop-i-preserved
loop-i-preserved c =
    let a = c.args in
    let l = c.loop-i in
    let v = c.visit-grade.ensures in
    let right = v.right ∙ ap (visit_byte (places_of a.shape) a.network.now) c.from.ensures in
    record {
      bytes = rw (zero-add l.i) at (filled_more {f = λ k. visit_byte (places_of a.shape) a.network.now (at a.cells.now k)} c.visit-grade.result l.invariant.bytes (omega (arith, c.requires.room)) right);
      knows = v.knows;
      kept = past_then l.invariant.kept v.kept;
      none-keeps = λ e. absurd (omega arith);
    }

pub returns : goal.returns
returns c =
    let a = c.args in
    let l = c.loop-i in
    record {
      bytes = visited-all (places_of a.shape) a.network.now a.cells.now a.grades.now (omega (arith, l.auto.i-end, c.loop-i-test.false)) c.requires.room l.invariant.bytes;
      kept = l.invariant.kept;
      none-keeps = l.invariant.none-keeps;
    }
