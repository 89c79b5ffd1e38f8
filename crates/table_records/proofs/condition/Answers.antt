-- `table_records::condition` meets its contract.
use Rattle.std.proofs.Common.{◌+◌, set, length-set, ◌∙◌}
use borrow.Author.Rules.{rules}
use Rattle.rules.specs.Bytes.{at}
use Rattle.shape.specs.Shapes.{cards_of}
use Rattle.shape.proofs.ShapeLaws.{eight-cards}
use Rattle.table_records.proofs.SeenLaws.{seen_from}
use Rattle.table_records.proofs.condition.Goals as goal

pub returns : goal.returns
returns c =
    let shape = c.args.s.shape in
    let card = at c.args.r.now 2 in
    let e = seen_from (shape.n + 1) (set (cards_of shape) shape.n card) shape.m c.args.s.next (length-set (cards_of shape) shape.n card ∙ eight-cards shape) in
    search rules
