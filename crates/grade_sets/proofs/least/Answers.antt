-- `grade_sets::least` meets its contract.
use Rattle.grade_sets.proofs.BitLaws.{trailing_least}
use Rattle.grade_sets.proofs.least.Goals as goal

pub returns : goal.returns
returns c = trailing_least 16 c.args.set
