-- `grades::run` meets its contract: what it wrote of the file in its buffer is what is printed for the whole input.
use borrow.Author.Rules.{rules}
use Rattle.std.proofs.lemmas.Result.{on_ok_weaker}
use Rattle.streams.proofs.InputLaws.{on_ok_as}
use Rattle.grades.proofs.AnswerLaws.{input_answered}
use Rattle.grades.proofs.run.Goals as goal

pub returns-clause-printed : goal.returns-clause-printed
returns-clause-printed g c =
    on_ok_weaker c.map_err.result
    (λ w. input_answered _ c.in_ok-len.len c.read_file.new.file (g.W.Write.contents c.args.stdout.now) (g.W.Write.contents c.write_all.new.self)
    (search rules) c.in_ok-len.ensures.taken c.answer-n.ensures (search rules) w)
    (on_ok_as _ c.map_err.result c.write_all.result c.map_err.ensures.variant c.write_all.ensures.bytes)
