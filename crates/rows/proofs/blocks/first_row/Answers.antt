-- `rows::blocks::first_row` meets its contract.
use Rattle.rows.proofs.GradesLaws.{room-same}
use Rattle.rows.proofs.RowLaws.{started, first_extremes}
use Rattle.rows.proofs.blocks.first_row.Goals as goal

pub fold_rows-requires : goal.fold_rows-requires
fold_rows-requires c =
    let t = c.take_row.ensures in
    (c.requires.0, c.requires.1, room-same _ t.len c.requires.2, started c.requires.0 c.requires.2 t)

pub returns : goal.returns
returns c =
    first_extremes c.requires.0 c.requires.2 c.take_row.ensures c.args.lines.greatest c.fold_rows.ensures
