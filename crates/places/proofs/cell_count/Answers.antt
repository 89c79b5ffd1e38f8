-- `places::cell_count` meets its contract: the step past the last place.
use mathlib.Core.Path.{◌∙◌}
use borrow.Author.Rules.{rules}
use Rattle.laws.proofs.LineLaws.{step-all}
use Rattle.places.proofs.cell_count.Goals as goal

pub returns : goal.returns
returns c = c.step.ensures ∙ step-all c.args.ks 8 (search rules)
