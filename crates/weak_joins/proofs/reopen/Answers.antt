-- `weak_joins::reopen` meets its contract.
use Rattle.weak_joins.proofs.OpenLaws.{reopened}
use Rattle.weak_joins.proofs.reopen.Goals as goal

pub returns : goal.returns
returns c =
    let l = c.over_part.ensures in
    reopened c.args.i c.requires.0 c.copy.ensures c.copy-2.ensures (rw c.singleton.ensures at l)
