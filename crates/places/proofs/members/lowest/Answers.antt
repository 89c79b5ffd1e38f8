-- `places::members::lowest` meets its contract.
use Rattle.places.proofs.MemberLaws.{lowest-zeros}
use Rattle.places.proofs.members.lowest.Goals as goal

pub returns : goal.returns
returns c = lowest-zeros c.args.set
