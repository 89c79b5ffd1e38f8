-- `table_file::writing::store_record` meets its contract.
use Rattle.std.proofs.Common.{sym, ◌∙◌, ap, arith}
use Rattle.rules.specs.Kinds.{table_byte}
use Rattle.rules.specs.TableFile.{cell_kind}
use Rattle.table_file.proofs.ListedLaws.{listed_lt}
use Rattle.table_file.proofs.writing.store_record.Goals as goal

pub bounds-lower-cell : goal.bounds-lower-cell
bounds-lower-cell c =
    let k = c.in-Ok-Cell-Ours in
    let kind = sym k.ensures ∙ ap table_byte k.field-0-is ∙ ap cell_kind k.field-0-0-is in
    omega (arith, c.number-cell.ensures, c.requires.room.low, listed_lt c.args.r.now c.args.ks (omega arith) c.requires.below kind)

pub bounds-upper-cell : goal.bounds-upper-cell
bounds-upper-cell c =
    let k = c.in-Ok-Cell-Ours in
    let kind = sym k.ensures ∙ ap table_byte k.field-0-is ∙ ap cell_kind k.field-0-0-is in
    omega (arith, c.number-cell.ensures, c.requires.room.high, listed_lt c.args.r.now c.args.ks (omega arith) c.requires.below kind)
