-- `join_tables::load_lower` meets its contract.
use Rattle.join_tables.proofs.HoldLaws.{loaded}
use Rattle.join_tables.proofs.load_lower.Goals as goal

pub returns-in-Max : goal.returns-in-Max
returns-in-Max c = λ ks e. rw c.in-Max.is (loaded c.load.ensures)
