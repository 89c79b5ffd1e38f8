-- `compile::judge` meets its contract.
use mathlib.Core.Path.{sym, ◌∙◌}
use Rattle.std.proofs.Common.{arith}
use Rattle.std.proofs.lemmas.Bool.Decides.{nat_tests}
use Rattle.compile.proofs.RowLaws.{judged, cells-between}
use Rattle.compile.proofs.judge.Goals as goal

pub has_room-requires : goal.has_room-requires
has_room-requires c = cells-between c.args.shape c.cells-cells.result c.cells-cells.ensures (sym c.sound.ensures ∙ c.if-not-sound.false)

pub returns-then-not-limits_sound : goal.returns-then-not-limits_sound
returns-then-not-limits_sound c =
    let a = c.args in
    judged a.shape a.lower.now a.upper.now a.work a.network c.cells-cells.ensures (grind (arith, nat_tests))

pub returns : goal.returns
returns c =
    let a = c.args in
    judged a.shape a.lower.now a.upper.now a.work a.network c.cells-cells.ensures (grind (arith, nat_tests))
