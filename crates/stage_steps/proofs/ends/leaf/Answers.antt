-- `stage_steps::ends::leaf` meets its contract.
use native.Mathlib.Omega.{arith}
use Rattle.stage_steps.proofs.EndLaws.{leaf-none, leaf-one}
use Rattle.stage_steps.proofs.ends.leaf.Goals as goal

pub returns-then-low-ge-PLACES : goal.returns-then-low-ge-PLACES
returns-then-low-ge-PLACES c = rw c.of_record.ensures (leaf-none c.if-low-ge-PLACES.true c.put_constant.ensures)

pub returns : goal.returns
returns c = rw c.of_record-2.ensures (leaf-one (omega (arith, c.if-low-ge-PLACES.false)) c.put_literal.ensures)
