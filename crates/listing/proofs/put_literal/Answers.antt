-- `listing::put_literal` meets its contract.
use mathlib.Core.Path.{◌≡◌, ap, ap₂, ◌∙◌}
use mathlib.Core.List.{List, ◌++◌}
use Prim.Native.Nat.{ℕ, ◌≤◌}
use native.Mathlib.Omega.{arith}
use borrow.Author.Rules.{rules}
use lib.ListN.{length}
use Rattle.rules.specs.Bytes.{at, tabulate}
use Rattle.rules.specs.Cell.{card}
use Rattle.rules.specs.Listing.{text, field, fields}
use Rattle.shape.specs.Shapes.{places_of}
use Rattle.shape.proofs.ShapeLaws.{sound-shape}
use Rattle.listing.specs.Putting.{grade_bytes}
use Rattle.listing.proofs.PutLaws.{put_then, put_as, put-within, literal_grades, literal_length}
use Rattle.listing.proofs.put_literal.Goals as goal

pub overflow_add-values : goal.overflow_add-values
overflow_add-values c =
    let h = (sound-shape c.args.shape c.requires.0).values-few c.from-2.result in
    search rules

pub slice_bounds-put_grades-end : goal.slice_bounds-put_grades-end
slice_bounds-put_grades-end c =
    let h = (sound-shape c.args.shape c.requires.0).values-few c.from-2.result in
    let few : c.cardinality-values.result ≤ 8 = omega arith in
    search rules

pub put_grades-requires : goal.put_grades-requires
put_grades-requires c =
    let h = (sound-shape c.args.shape c.requires.0).values-few c.from-2.result in
    let long = literal_length c.args.bytes.now c.cardinality-values.result (search rules) (omega arith) in
    omega arith

pub returns : goal.returns
returns c =
    let a = c.args in
    let bytes = a.bytes.now in
    let values : ℕ = c.cardinality-values.result in
    let h = (sound-shape a.shape c.requires.0).values-few c.from-2.result in
    let few : values ≤ 8 = omega arith in
    let sixteen : length bytes ≡ 16 = search rules in
    let long = literal_length bytes values sixteen few in
    let read : values ≡ card (places_of a.shape) (at bytes 1) = c.cardinality-values.ensures ∙ ap (card (places_of a.shape)) c.from-2.ensures in
    put-within 56 (omega arith)
    (put_as
    (ap₂ (λ (n : ℕ) (gs : List ℕ). text " L" ++ (field n ++ fields gs)) c.from.ensures
    (literal_grades bytes values sixteen few ∙ ap (λ (n : ℕ). tabulate n (grade_bytes bytes)) read))
    (put_then c.put-named.ensures (put_then c.put_field-next.ensures c.put_grades.ensures)))
