use Prim.Native.Nat.{◌+◌, ◌≤◌}
use Rattle.rules.specs.Bytes.{at}
use Rattle.tables.specs.Part.{part}
use Rattle.tables.specs.Line.{Spread}
use Rattle.moves.proofs.uncofactor.Given as goal

abbrev pub invariant-loop-c : goal.invariant-loop-c
invariant-loop-c l = (l.c ≤ l.n) × Spread l.initial.w (l.to + l.k) l.card (at (part l.initial.w l.from l.n)) l.c l.w
