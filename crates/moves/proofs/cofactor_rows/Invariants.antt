use Prim.Native.Nat.{◌*◌, ◌≤◌}
use Rattle.rules.specs.Bytes.{at}
use Rattle.tables.specs.Part.{part}
use Rattle.tables.proofs.PartLaws.{Filled}
use Rattle.moves.specs.Row.{in_row}
use Rattle.moves.proofs.cofactor_rows.Given as goal

abbrev pub invariant-loop-r : goal.invariant-loop-r
invariant-loop-r l = (l.r ≤ l.count) × Filled l.initial.w l.to (λ c. at (part l.initial.w l.from (l.card * l.n)) (in_row l.step l.card l.k c)) (l.step * l.r) l.w
