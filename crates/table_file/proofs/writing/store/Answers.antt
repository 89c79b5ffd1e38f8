-- `table_file::writing::store` meets its contract.
use Rattle.std.proofs.Common.{◌/◌, List, length, sym, ◌∙◌, subst, arith, ℕ}
use Rattle.table_file.specs.Reading.{RecordBelow}
use Rattle.laws.proofs.RecordLaws.{record_read}
use Rattle.table_file.proofs.ListedLaws.{listed_next}
use Rattle.table_file.proofs.writing.store.Goals as goal

pub store_record-requires-clause-below : goal.store_record-requires-clause-below
store_record-requires-clause-below c =
    let k = c.loop-r.r-index in
    subst (λ (r : List ℕ). RecordBelow r c.args.ks) (sym (record_read c.args.file.now k c.as_chunks.ensures.front (omega arith))) (c.requires.below k (omega arith))

pub loop-r-preserved : goal.loop-r-preserved
loop-r-preserved c =
    let file = c.args.file.now in
    let ks = c.args.ks in
    let l = c.loop-r in
    let is = record_read file l.r-index c.as_chunks.ensures.front (omega arith) in
    record {
      low = listed_next file ks 1 l.r-index (length file / 16) _ l.lower (omega arith) is c.store_record.ensures.lower ∙ l.invariant.low;
      high = listed_next file ks 2 l.r-index (length file / 16) _ l.upper (omega arith) is c.store_record.ensures.upper ∙ l.invariant.high;
    }
