-- `join_tables::least_upper` meets its contract.
use mathlib.Core.Bool.{false}
use Rattle.join_tables.proofs.TurnLaws.{lacking, over-laid}
use Rattle.join_tables.proofs.least_upper.Goals as goal

pub returns-in-Min : goal.returns-in-Min
returns-in-Min c =
    let a = c.args in
    rw c.in-Min.is (over-laid false a.ks a.set c.requires.1 (lacking a.ks a.m a.lower.now c.requires.1 c.load_complement.ensures) c.over_part.ensures)
