-- `shape::Shape::cardinality` meets its contract.
use mathlib.Core.Path.{sym}
use native.Mathlib.Omega.{arith}
use Rattle.shape.specs.Shapes.{places_of}
use Rattle.shape.proofs.ShapeLaws.{eight-places}
use Rattle.laws.proofs.NumberLaws.{card_past}
use Rattle.laws.proofs.LoopLaws.{card_read}
use Rattle.shape.proofs.Shape.cardinality.Goals as goal

pub returns-then-i-ge-PLACES : goal.returns-then-i-ge-PLACES
returns-then-i-ge-PLACES c = sym (card_past (places_of c.args.self) c.args.i (omega (arith, eight-places c.args.self)))

pub returns : goal.returns
returns c =
    let s = c.args.self in
    let i = c.args.i in
    rw c.places-ks.ensures (card_read (places_of s) i (omega (arith, eight-places s)))
