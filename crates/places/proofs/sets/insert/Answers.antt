-- `places::sets::insert` meets its contract.
use Rattle.places.proofs.PlaceLaws.{or-insert}
use Rattle.places.proofs.sets.insert.Goals as goal

pub returns : goal.returns
returns c = rw c.singleton.ensures (or-insert c.args.set c.args.i c.requires.1)
