-- `shape::Shape::places` meets its contract.
use mathlib.Core.Path.{ap, ◌∙◌}
use Rattle.rules.specs.Shape.{places}
use Rattle.shape.specs.Shapes.{cards_of}
use Rattle.shape.proofs.Shape.places.Goals as goal

pub returns : goal.returns
returns c = c.with_ones.ensures ∙ ap places c.cards.ensures
