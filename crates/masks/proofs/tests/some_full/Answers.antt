-- `masks::tests::some_full` meets its contract.
use Rattle.std.proofs.Common.{◌+◌, ◌∙◌, rules, tests}
use Rattle.std.proofs.lemmas.Iterator.{YieldsList-from_slice}
use Rattle.std.proofs.lemmas.Iterator.Search.{any_from_yields_List}
use Rattle.std.specs.List.{slice_range}
use Rattle.masks.specs.Masks.{is_full_from}
use Rattle.masks.proofs.ScanLaws.{any_part}
use Rattle.masks.proofs.tests.some_full.Goals as goal

pub returns : goal.returns
returns c =
    let a = c.args in
    let full = is_full_from a.k in
    any_from_yields_List full _ _ c.any.result c.any.ensures.ran (YieldsList-from_slice (slice_range a.w.now a.a (a.a + a.n)) cc) (λ x b q k. search (rules, tests))
    ∙ any_part a.w.now a.a a.n full c.requires.1
