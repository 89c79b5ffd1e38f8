-- `converter::turn` meets its contract: what it wrote of the file in its buffer is what the rules say of the whole input.
use Rattle.std.proofs.Common.{rules}
use Rattle.std.proofs.KnownBytes.{Appends-nil}
use Rattle.std.proofs.lemmas.Result.{on_ok_weaker}
use Rattle.streams.proofs.InputLaws.{on_ok_as}
use Rattle.converter.proofs.ReplyLaws.{input_said, reply_said}
use Rattle.converter.proofs.turn.Goals as goal

pub returns-in-Err-clause-said : goal.returns-in-Err-clause-said
returns-in-Err-clause-said g c =
    on_ok_weaker c.map_err-in-Err.result
    (λ w. input_said _ c.in_ok-len.len c.read_file.new.file (search rules) c.in_ok-len.ensures.taken (reply_said c.in-Err.is c.answer.ensures (Appends-nil _) w))
    (on_ok_as _ c.map_err-in-Err.result c.write_all-in-Err.result c.map_err-in-Err.ensures.variant c.write_all-in-Err.ensures.bytes)

pub returns-in-Ok-clause-said : goal.returns-in-Ok-clause-said
returns-in-Ok-clause-said g c =
    on_ok_weaker c.map_err.result
    (λ w. input_said _ c.in_ok-len.len c.read_file.new.file (search rules) c.in_ok-len.ensures.taken (reply_said c.in-Ok.is c.answer.ensures w (Appends-nil _)))
    (on_ok_as _ c.map_err.result c.write_all.result c.map_err.ensures.variant c.write_all.ensures.bytes)
