-- `places::sets::singleton` meets its contract.
use Rattle.places.proofs.PlaceLaws.{shift-singleton}
use Rattle.places.proofs.sets.singleton.Goals as goal

pub returns : goal.returns
returns c = shift-singleton c.args.i c.requires
