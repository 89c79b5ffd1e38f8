use Prim.Native.Nat.{◌≤◌}
use Rattle.tables.specs.Line.{Spread}
use Rattle.rows.proofs.blocks.line_fill.Given as goal

abbrev pub invariant-loop-v : goal.invariant-loop-v
invariant-loop-v l = (l.v ≤ l.card) × Spread l.initial.w l.a l.step (λ _. l.grade) l.v l.w
