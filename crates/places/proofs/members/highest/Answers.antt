-- `places::members::highest` meets its contract.
use Rattle.places.proofs.MemberLaws.{highest-log}
use Rattle.places.proofs.members.highest.Goals as goal

pub returns : goal.returns
returns c =
    let e = c.checked_ilog2.ensures in
    rw c.unwrap_or.ensures (highest-log c.args.set c.checked_ilog2.result e.none e.power_le e.next_power_gt e.bound)
