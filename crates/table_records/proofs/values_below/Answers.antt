-- `table_records::values_below` meets its contract.
use Rattle.std.proofs.Common.{ltb, take, drop, ◌∙◌, arith, rules, tests}
use Rattle.std.proofs.lemmas.Iterator.{YieldsList-from_slice, YieldsList-from_zip}
use Rattle.std.proofs.lemmas.Iterator.Search.{all_from_yields_List}
use Rattle.table_records.proofs.RecordLaws.{values-zip}
use Rattle.table_records.proofs.values_below.Goals as goal

pub returns : goal.returns
returns c =
    let r = c.args.r.now in
    let ks = c.args.ks in
    all_from_yields_List (λ q. ltb q.0 q.1) c.all.new.self _ _ c.all.ensures.ran (YieldsList-from_zip {xs = take 8 (drop 8 r)} {ys = ks} (YieldsList-from_slice _ cc) (YieldsList-from_slice _ cc)) (λ x b q k. search (rules, tests))
    ∙ values-zip r ks (omega arith) (omega arith)
