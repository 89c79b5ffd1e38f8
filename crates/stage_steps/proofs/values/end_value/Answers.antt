-- `stage_steps::values::end_value` meets its contract.
use native.Mathlib.Omega.{arith}
use Rattle.stage_steps.proofs.ValueLaws.{first_ended, later_ended}
use Rattle.stage_steps.proofs.values.end_value.Goals as goal

pub returns-then-k-eq0 : goal.returns-then-k-eq0
returns-then-k-eq0 c = first_ended c.gate_over-part.ensures c.if-k-eq0.true

pub gate_over-requires : goal.gate_over-requires
gate_over-requires c = c.requires.greatest (omega (arith, c.if-k-eq0.false)) c.gate_over-part.ensures

pub returns : goal.returns
returns c = later_ended c.gate_over-part.ensures (omega (arith, c.if-k-eq0.false)) c.gate_over.ensures
