-- `tables::grades::extreme` meets its contract.
use Rattle.std.proofs.Common.{rules}
use Rattle.tables.proofs.grades.extreme.Goals as goal

pub returns-then-greater : goal.returns-then-greater
returns-then-greater c = rw c.if-greater.true (search rules)

pub returns-else-greater : goal.returns-else-greater
returns-else-greater c = rw c.if-greater.false (search rules)
