use Rattle.std.proofs.Common.{◌≡◌, ◌-◌, ◌/◌, length}
use Rattle.rules.specs.TableFile.{start, table_records}
use Rattle.table_records.specs.Records.{seen_of, InRange}
use Rattle.table_records.proofs.records.Given as goal

abbrev pub invariant-loop-r : goal.invariant-loop-r
invariant-loop-r l = record {
  kept : InRange (seen_of l.s);
  rest : table_records l.edition l.file l.r-index (length l.file / 16 - l.r-index) (seen_of l.s) ≡ table_records l.edition l.file 0 (length l.file / 16) start;
}
