-- `tables::tests::zero_between` meets its contract.
use Rattle.std.proofs.Common.{rules, tests, ◌∙◌, ◌-◌, eqb}
use Rattle.std.proofs.lemmas.Iterator.{YieldsList-from_slice}
use Rattle.std.proofs.lemmas.Iterator.Search.{all_from_yields_List}
use Rattle.std.proofs.Math.ListN.{take, drop}
use Rattle.laws.proofs.ChainLaws.{elements-all}
use Rattle.tables.proofs.ZeroLaws.{zeros-lent}
use Rattle.tables.proofs.tests.zero_between.Goals as goal

pub returns-else-a-b : goal.returns-else-a-b
returns-else-a-b c =
    let s = c.args in
    let r = s.r.now in
    all_from_yields_List (λ x. eqb x 0) _ _ c.all.result c.all.ensures.ran (YieldsList-from_slice (take (s.b - s.a) (drop s.a r)) cc) (λ x b q k. search (rules, tests))
    ∙ elements-all (λ x. eqb x 0) 0 (take (s.b - s.a) (drop s.a r)) ∙ zeros-lent r s.a s.b c.requires
