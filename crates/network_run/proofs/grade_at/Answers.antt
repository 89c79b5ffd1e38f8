-- `network_run::grade_at` meets its contract.
use Prim.Native.Nat.{◌-◌, ◌/◌}
use native.Mathlib.Omega.{arith}
use lib.ListN.{length}
use Rattle.shape.specs.Shapes.{places_of}
use Rattle.network_run.proofs.WorkLaws.{run-last}
use Rattle.network_run.proofs.ReadLaws.{some_record}
use Rattle.network_run.proofs.grade_at.Goals as goal

pub overflow_sub-last : goal.overflow_sub-last
overflow_sub-last c = some_record (places_of c.args.shape) c.args.shape.m c.args.network.now c.requires.network-sound

pub bounds-work-last : goal.bounds-work-last
bounds-work-last c = omega (arith, some_record (places_of c.args.shape) c.args.shape.m c.args.network.now c.requires.network-sound, c.run.ensures.kept.long, c.requires.room)

pub returns : goal.returns
returns c =
    let a = c.args in
    let ran = c.run.ensures in
    record {
      right = run-last (places_of a.shape) a.network.now a.cell a.work.now _ (length a.network.now / 16 - 1) ran (omega (arith, some_record (places_of c.args.shape) c.args.shape.m c.args.network.now c.requires.network-sound)) c.requires.room;
      kept = ran.kept;
    }
