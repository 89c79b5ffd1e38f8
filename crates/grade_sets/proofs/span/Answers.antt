-- `grade_sets::span` meets its contract.
use Rattle.grade_sets.proofs.BitLaws.{shift_below, span_shift}
use Rattle.grade_sets.proofs.span.Goals as goal

pub overflow_sub-result : goal.overflow_sub-result
overflow_sub-result c = shift_below c.args.lower c.args.upper c.requires.0 c.requires.1

pub returns : goal.returns
returns c = span_shift c.args.lower c.args.upper c.requires.0 c.requires.1
