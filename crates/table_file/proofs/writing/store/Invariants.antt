use Rattle.std.proofs.Common.{◌≡◌, ◌-◌, ◌/◌, length}
use Rattle.rules.specs.TableFile.{listed_over}
use Rattle.table_file.proofs.writing.store.Given as goal

abbrev pub invariant-loop-r : goal.invariant-loop-r
invariant-loop-r l = record {
  low : listed_over l.file l.ks 1 l.r-index (length l.file / 16 - l.r-index) l.lower ≡ listed_over l.file l.ks 1 0 (length l.file / 16) l.initial.lower;
  high : listed_over l.file l.ks 2 l.r-index (length l.file / 16 - l.r-index) l.upper ≡ listed_over l.file l.ks 2 0 (length l.file / 16) l.initial.upper;
}
