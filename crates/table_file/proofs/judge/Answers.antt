-- `table_file::judge` meets its contract.
use borrow.Author.Rules.{rules}
use Rattle.table_records.proofs.SeenLaws.{judges}
use Rattle.table_file.proofs.judge.Goals as goal

pub returns : goal.returns
returns c = judges (search rules)
