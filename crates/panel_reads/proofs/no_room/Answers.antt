-- `panel_reads::no_room` meets its contract.
use mathlib.Core.Path.{sym, ap, ◌∙◌}
use Rattle.rules.specs.Verdict.{verdict_of}
use Rattle.table_records.specs.Records.{seen_of}
use Rattle.panel_reads.proofs.ReadLaws.{short-number}
use Rattle.panel_reads.proofs.no_room.Goals as goal

pub returns-in-Err : goal.returns-in-Err
returns-in-Err c =
    c.of_refusal.ensures ∙ short-number c.args.file.now _ (sym (ap (verdict_of seen_of) c.in-Err.is) ∙ c.judge.ensures.answer)

pub returns-in-Ok : goal.returns-in-Ok
returns-in-Ok c =
    c.of_refusal-in-Ok.ensures ∙ short-number c.args.file.now _ (sym (ap (verdict_of seen_of) c.in-Ok.is) ∙ c.judge.ensures.answer)
