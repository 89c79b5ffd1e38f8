-- `mask_making::extreme_over` meets its contract.
use Rattle.rules.specs.Cell.{singleton, over}
use Rattle.tables.specs.Line.{best}
use Rattle.mask_making.proofs.MarkLaws.{copied}
use Rattle.mask_making.proofs.extreme_over.Goals as goal

pub returns : goal.returns
returns c =
    let s = c.args in
    copied (over (best s.greatest) s.ks (singleton s.i)) c.requires.3 c.copy.ensures c.over_one.ensures
