-- `join_tables::blind` meets its contract.
use Rattle.join_tables.proofs.JudgeLaws.{blinded}
use Rattle.join_tables.proofs.blind.Goals as goal

pub returns : goal.returns
returns c = let r = c.requires in blinded c.args.ks c.args.set c.fits.result r.1 r.2 r.4 c.over_lent.ensures c.fits.ensures
