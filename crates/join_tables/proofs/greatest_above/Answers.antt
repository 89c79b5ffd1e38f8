-- `join_tables::greatest_above` meets its contract.
use mathlib.Core.Bool.{true}
use Rattle.join_tables.proofs.TurnLaws.{over-laid}
use Rattle.join_tables.proofs.greatest_above.Goals as goal

pub returns : goal.returns
returns c = over-laid true c.args.ks c.args.set c.requires.1 c.keep_above.ensures c.over_part.ensures
