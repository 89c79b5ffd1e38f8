-- `stage_steps::values::collect` meets its contract.
use mathlib.Core.Logic.{inr}
use native.Mathlib.Omega.{arith}
use Rattle.stage_steps.proofs.WantLaws.{wanted-on, wanted-off}
use Rattle.stage_steps.proofs.values.collect.Goals as goal

pub copy-requires : goal.copy-requires
copy-requires c = let h = c.requires in record { src = omega arith; dst = omega arith; apart = inr (omega arith) }

pub returns-then-want : goal.returns-then-want
returns-then-want c = wanted-on c.if-want.true c.copy.ensures

pub returns-else-want : goal.returns-else-want
returns-else-want c = wanted-off c.if-want.false
