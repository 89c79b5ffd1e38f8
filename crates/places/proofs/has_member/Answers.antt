-- `places::has_member` meets its contract.
use mathlib.Core.Path.{sym}
use Rattle.laws.proofs.NumberLaws.{has-bit}
use Rattle.places.proofs.has_member.Goals as goal

pub returns : goal.returns
returns c = sym (has-bit c.args.set c.args.i)
