use Rattle.std.proofs.Common.{ℕ, ◌<◌, ◌≡◌, length}
use Rattle.rules.specs.Bytes.{at}
use Rattle.tables.proofs.fill.from_two.Given as goal

abbrev pub invariant-loop-c : goal.invariant-loop-c
invariant-loop-c g l = (length l.cells ≡ l.n) × (length l.first ≡ l.n) × (length l.second ≡ l.n) × ((k : ℕ) → k < l.c → goal.F-post g l.grade (at l.first k) (at l.second k) (at l.cells k))
