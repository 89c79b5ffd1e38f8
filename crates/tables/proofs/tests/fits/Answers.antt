-- `tables::tests::fits` meets its contract.
use Rattle.std.proofs.Common.{rules, tests, ◌∙◌, leb}
use Rattle.std.proofs.lemmas.Iterator.{YieldsList-from_slice, YieldsList-from_zip}
use Rattle.std.proofs.lemmas.Iterator.Search.{all_from_yields_List}
use Rattle.tables.proofs.LendLaws.{lent}
use Rattle.tables.proofs.ScanLaws.{list_all-parts}
use Rattle.tables.proofs.tests.fits.Goals as goal

pub returns : goal.returns
returns c =
    let s = c.args in
    let w = s.w.now in
    all_from_yields_List (λ p. leb p.0 p.1) c.all.new.self _ c.all.result c.all.ensures.ran
    (YieldsList-from_zip (YieldsList-from_slice (lent s.low s.n w) cc) (YieldsList-from_slice (lent s.high s.n w) cc)) (λ x b q k. search (rules, tests))
    ∙ list_all-parts leb w w s.low s.high s.n c.requires.0 c.requires.1
