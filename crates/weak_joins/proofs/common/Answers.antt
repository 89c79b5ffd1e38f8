-- `weak_joins::common` meets its contract.
use Rattle.std.proofs.Common.{◌≡◌, ◌+◌, map, rules, tests}
use Rattle.std.proofs.lemmas.Iterator.{YieldsList-from_slice, YieldsList-from_map, YieldsList-from_zip}
use Rattle.std.proofs.lemmas.Iterator.Consumers.{fold_from_yields_List}
use Rattle.std.specs.Int.Bits.{bit_and}
use Rattle.std.specs.List.{fold, zip, slice_range}
use Rattle.weak_joins.proofs.CommonLaws.{bound, common_part}
use Rattle.weak_joins.proofs.common.Goals as goal

pub returns : goal.returns
returns c =
    let b = c.args in
    let masks = slice_range b.w.now b.a (b.a + b.n) in
    let grades = slice_range b.w.now b.of (b.of + b.n) in
    let e : c.fold.result ≡ fold bit_and 255 (map (bound b.free) (zip masks grades)) =
    fold_from_yields_List _ bit_and 255 c.fold.result c.fold.ensures.ran
    (YieldsList-from_map _ (bound b.free) (YieldsList-from_zip (YieldsList-from_slice masks cc) (YieldsList-from_slice grades cc)) c.map.ensures.closure (λ x r q k. search (rules, tests)))
    (λ a x b q k. search (rules, tests)) in
    rw e (common_part b.w.now b.a b.of b.n b.free c.requires.0 c.requires.1)
