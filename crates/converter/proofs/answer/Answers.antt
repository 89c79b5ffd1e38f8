-- `converter::answer` meets its contract.
use Rattle.std.proofs.Common.{rules}
use Rattle.converter.proofs.ReplyLaws.{file_replied, refusal_replied}
use Rattle.converter.proofs.answer.Goals as goal

pub returns-in-Ok : goal.returns-in-Ok
returns-in-Ok c = file_replied c.convert.ensures c.requires.0 c.in-Ok.is (search rules)

pub returns-in-Err : goal.returns-in-Err
returns-in-Err c = refusal_replied c.convert.ensures c.requires.0 c.in-Err.is c.put_refusal.ensures (search rules)
