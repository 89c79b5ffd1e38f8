-- `tables::grades::greatest` meets its contract.
use Rattle.std.proofs.Common.{rules, ◌≡◌, fold, max, ◌∙◌, arith}
use Rattle.std.proofs.iter.runs.Made.{chains}
use Rattle.rules.specs.Bytes.{greatest}
use Rattle.tables.proofs.ScanLaws.{fold-greatest}
use Rattle.tables.proofs.grades.greatest.Goals as goal

pub returns : goal.returns
returns c =
    let xs = c.args.grades.now in
    let e : c.fold.result ≡ fold max 0 xs = search (rules, chains) in
    e ∙ fold-greatest 0 xs ∙ top (greatest xs)
  where
    top : (n : _) → max 0 n ≡ n
    top n = omega arith
