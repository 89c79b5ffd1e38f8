use Rattle.std.proofs.Common.{ℕ, ◌<◌, ◌≤◌, ◌≡◌, length}
use Rattle.rules.specs.Bytes.{at}
use Rattle.tables.specs.Line.{best}
use Rattle.rows.proofs.grades.extremes.Given as goal

abbrev pub invariant-loop-o : goal.invariant-loop-o
invariant-loop-o l = (length l.answers ≡ length l.grades) × ((k : ℕ) → k < l.o → at l.answers k ≡ best l.greatest (at l.initial.answers k) (at l.grades k)) × ((k : ℕ) → l.o ≤ k → at l.answers k ≡ at l.initial.answers k)
