-- `table_records::cell` meets its contract.
use Rattle.std.proofs.Common.{◌≡◌, ℕ, ◌+◌, ◌<◌, ◌≤◌, Bool, true, ltb, List, length, sym, ◌∙◌, arith}
use lib.Dec.{ltb→lt}
use Rattle.rules.specs.Bytes.{at, all}
use Rattle.rules.specs.Cell.{card, cells}
use Rattle.laws.proofs.TestLaws.{passes}
use Rattle.laws.proofs.TableLaws.{all-at}
use Rattle.laws.proofs.NumberLaws.{number_lt}
use Rattle.shape.proofs.ShapeLaws.{eight-places, shape-positive}
use Rattle.table_records.proofs.cell.Goals as goal

-- values that passed the test
below : (r ks : List ℕ) {b : Bool} → b ≡ all 8 (λ i. ltb (at r (8 + i)) (card ks i)) → b ≡ true → (i : ℕ) → i < 8 → at r (8 + i) < card ks i
below r ks e t i h = ltb→lt _ _ (all-at 8 (λ i. ltb (at r (8 + i)) (card ks i)) (passes (sym e ∙ t)) i h)

pub number-number-requires : goal.number-number-requires
number-number-requires c =
    let few : cells c.places-ks.result ≤ 1024 = rw c.places-ks.ensures c.requires.few in
    (rw c.places-ks.ensures (shape-positive c.args.s.shape), few, omega arith, below _ _ c.values_below.ensures c.if-not-values_below.false)

pub overflow_add-result : goal.overflow_add-result
overflow_add-result c =
    let r = c.args.r.now in
    let ks = c.places-ks.result in
    let few : cells ks ≤ 1024 = rw c.places-ks.ensures c.requires.few in
    let eight : length ks ≡ 8 = rw c.places-ks.ensures (eight-places c.args.s.shape) in
    omega (arith, c.number-number.ensures, number_lt ks (λ i. at r (8 + i)) (λ i h. below r ks c.values_below.ensures c.if-not-values_below.false i (omega arith)))
