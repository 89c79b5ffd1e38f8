-- `table_records::records` meets its contract.
use Rattle.std.proofs.Common.{◌/◌, length, sym, ◌∙◌, ap, arith}
use Rattle.rules.specs.Bytes.{record_at}
use Rattle.rules.specs.TableFile.{table_record}
use Rattle.table_records.specs.Records.{seen_of}
use Rattle.laws.proofs.RecordLaws.{record_read}
use Rattle.table_records.proofs.SeenLaws.{accepted-step, records-refused, records-accepted}
use Rattle.table_records.proofs.records.Goals as goal

pub returns-in-Err : goal.returns-in-Err
returns-in-Err c =
    let e = c.args.edition in
    let file = c.args.file.now in
    let l = c.loop-r in
    let is = record_read file l.r-index c.as_chunks.ensures.front (omega arith) in
    records-refused e file l.r-index (length file / 16) (seen_of l.s) (omega arith) _ (c.in-Err.ensures ∙ ap (table_record e (seen_of l.s)) is) ∙ l.invariant.rest

pub loop-r-preserved : goal.loop-r-preserved
loop-r-preserved c =
    let e = c.args.edition in
    let file = c.args.file.now in
    let l = c.loop-r in
    let is = record_read file l.r-index c.as_chunks.ensures.front (omega arith) in
    let v = c.in-Ok.ensures ∙ ap (table_record e (seen_of l.s)) is in
    record {
      kept = (accepted-step e (seen_of l.s) (record_at file l.r-index) l.invariant.kept _ (sym v)).kept;
      rest = records-accepted e file l.r-index (length file / 16) (seen_of l.s) (omega arith) _ v ∙ l.invariant.rest;
    }
