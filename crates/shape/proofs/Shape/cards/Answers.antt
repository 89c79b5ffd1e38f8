-- `shape::Shape::cards` meets its contract.
use mathlib.Core.Path.{refl}
use Rattle.shape.specs.Shapes.{cards_of}
use Rattle.shape.proofs.Shape.cards.Goals as goal

pub returns : goal.returns
unfolding cards_of
returns c = refl
