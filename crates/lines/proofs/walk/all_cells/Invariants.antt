use mathlib.Core.Bool.{true}
use Prim.Native.Nat.{◌≤◌}
use Rattle.lines.specs.Walk.{OnLine, AllGave}
use Rattle.lines.proofs.walk.all_cells.Given as goal

abbrev pub invariant-loop-c : goal.invariant-loop-c
invariant-loop-c g l =
    record { within : l.c ≤ l.n; line : OnLine l.step l.card l.c l.on; passed : AllGave (goal.F-post g l.test) l.c l.step l.card true }
