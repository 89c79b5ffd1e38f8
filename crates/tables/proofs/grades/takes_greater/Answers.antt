-- `tables::grades::takes_greater` meets its contract.
use Rattle.tables.proofs.grades.takes_greater.Goals as goal

pub returns-in-Min : goal.returns-in-Min
returns-in-Min c = λ x y. rw c.in-Min.is

pub returns-in-Max : goal.returns-in-Max
returns-in-Max c = λ x y. rw c.in-Max.is
