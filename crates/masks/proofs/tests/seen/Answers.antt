-- `masks::tests::seen` meets its contract.
use Rattle.std.proofs.Common.{◌≡◌, ◌+◌, rules}
use Rattle.std.specs.Int.Bits.{bit_or}
use Rattle.std.specs.List.{fold, slice_range}
use Rattle.masks.proofs.UnionLaws.{union_whole}
use Rattle.masks.proofs.tests.seen.Goals as goal

pub returns : goal.returns
returns c =
    let a = c.args in
    let e : c.fold.result ≡ fold bit_or 0 (slice_range a.w.now a.a (a.a + a.n)) = search rules in
    rw e (union_whole a.w.now a.a a.n c.requires)
