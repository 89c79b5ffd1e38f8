use Rattle.std.proofs.Common.{ℕ, ◌-◌, ◌<◌, ◌≡◌, length}
use Rattle.rules.specs.Bytes.{at}
use Rattle.tables.proofs.fill.lacks.Given as goal

abbrev pub invariant-loop-c : goal.invariant-loop-c
invariant-loop-c l = (length l.cells ≡ length l.grades) × ((k : ℕ) → k < l.c → at l.cells k ≡ l.top - at l.grades k)
