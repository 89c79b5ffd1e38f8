-- `network::has_room` meets its contract.
use borrow.Author.Tests.{le-leb, lt-leb}
use Rattle.laws.proofs.TestLaws.{and_true}
use Rattle.network.proofs.has_room.Goals as goal

pub returns-then-cells-lower : goal.returns-then-cells-lower
returns-then-cells-lower c = simp (le-leb _ _ c.if-cells-lower.true) (and_true _)

pub returns-else-cells-lower : goal.returns-else-cells-lower
returns-else-cells-lower c = simp (lt-leb _ _ c.if-cells-lower.false)
