-- `mask_making::mark` meets its contract.
use native.Mathlib.Omega.{arith}
use Rattle.tables.proofs.PartLaws.{filled_all}
use Rattle.mask_making.proofs.mark.Goals as goal

pub returns : goal.returns
returns c = filled_all c.args.n (omega arith) c.loop-x.invariant.1
