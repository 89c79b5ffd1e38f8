-- `grouping::growing::add_in_order` meets its contract.
use Rattle.grouping.proofs.GrowLaws.{added_first, added_second, added_neither}
use Rattle.grouping.proofs.growing.add_in_order.Goals as goal

pub returns-then-try_add : goal.returns-then-try_add
returns-then-try_add c =
    let f = c.args.found in
    rw c.insert.ensures (added_first f.s f.t c.requires.1 c.try_add.ensures c.if-try_add.true)

pub returns-then-try_add-2 : goal.returns-then-try_add-2
returns-then-try_add-2 c =
    let f = c.args.found in
    rw c.insert-then-try_add-2.ensures
    (added_second f.s f.t c.requires.1 c.try_add.ensures c.if-try_add.false c.try_add-2.ensures c.if-try_add-2.true)

pub returns : goal.returns
returns c =
    let f = c.args.found in
    added_neither f.s f.t c.requires.1 c.try_add.ensures c.if-try_add.false c.try_add-2.ensures c.if-try_add-2.false
