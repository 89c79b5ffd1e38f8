-- `masks::tests::seen_beside` meets its contract.
use Rattle.std.proofs.Common.{◌≡◌, ◌+◌, rules}
use Rattle.std.specs.Int.Bits.{bit_or}
use Rattle.std.specs.List.{fold, slice_range}
use Rattle.rules.specs.Bytes.{pick}
use Rattle.rules.specs.Cell.{has}
use Rattle.masks.proofs.UnionLaws.{union_picked}
use Rattle.masks.proofs.tests.seen_beside.Goals as goal

pub returns : goal.returns
returns c =
    let a = c.args in
    let e : c.fold.result ≡ fold (λ s x. bit_or s (pick (has x a.i) x 0)) 0 (slice_range a.w.now a.a (a.a + a.n)) = search rules in
    rw e (union_picked a.w.now a.a a.n (λ s. has s a.i) c.requires.1)
