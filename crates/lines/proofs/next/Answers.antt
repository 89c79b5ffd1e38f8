-- `lines::next` meets its contract.
use Rattle.lines.proofs.AlongLaws.{next-block}
use Rattle.lines.proofs.next.Goals as goal

pub returns : goal.returns
returns c = next-block c.if-on-gt1.false c.if-back-on.false
