-- `places::sets::count` meets its contract.
use borrow.Author.Rules.{rules}
use Rattle.places.proofs.PlaceLaws.{ones-members}
use Rattle.places.proofs.sets.count.Goals as goal

pub returns : goal.returns
returns c = ones-members 8 c.args.set (search rules)
