-- `mask_making::mark_lines` meets its contract.
use Rattle.mask_making.proofs.MarkLaws.{lines_marked}
use Rattle.mask_making.proofs.mark_lines.Goals as goal

pub returns : goal.returns
returns c =
    lines_marked c.requires.1 c.args.i c.args.bit c.extreme_over.ensures c.mark.ensures c.extreme_over-2.ensures c.mark-2.ensures
