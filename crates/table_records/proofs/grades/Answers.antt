-- `table_records::grades` meets its contract.
use Rattle.shape.specs.Shapes.{cards_of}
use borrow.Author.Rules.{rules}
use Rattle.table_records.proofs.grades.Goals as goal

pub returns : goal.returns
unfolding cards_of
returns c = search rules
