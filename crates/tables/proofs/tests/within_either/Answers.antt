-- `tables::tests::within_either` meets its contract.
use Rattle.std.proofs.Common.{rules, tests, ◌∙◌, leb, max}
use Rattle.std.proofs.lemmas.Iterator.{YieldsList-from_slice, YieldsList-from_zip}
use Rattle.std.proofs.lemmas.Iterator.Search.{all_from_yields_List}
use Rattle.tables.proofs.LendLaws.{lent}
use Rattle.std.specs.List.{zip}
use Rattle.tables.proofs.ScanLaws.{list_all-three}
use Rattle.tables.proofs.tests.within_either.Goals as goal

pub returns : goal.returns
returns c =
    let s = c.args in
    let w = s.w.now in
    let h = c.requires in
    all_from_yields_List (λ p. leb p.0.0 (max p.0.1 p.1)) c.all.new.self _ c.all.result c.all.ensures.ran
    (YieldsList-from_zip {xs = zip (lent s.low s.n w) (lent s.a s.n w)} {ys = lent s.b s.n w}
    (YieldsList-from_zip (YieldsList-from_slice (lent s.low s.n w) cc) (YieldsList-from_slice (lent s.a s.n w) cc)) (YieldsList-from_slice (lent s.b s.n w) cc))
    (λ x b q k. search (rules, tests))
    ∙ list_all-three (λ x y z. leb x (max y z)) w s.low s.a s.b s.n h.0 h.1 h.2
