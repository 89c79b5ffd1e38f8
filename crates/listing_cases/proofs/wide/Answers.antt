-- `listing_cases::wide` meets its contract.
use mathlib.Core.Path.{refl}
use Rattle.shape.specs.Shapes.{cards_of}
use Rattle.listing_cases.proofs.wide.Goals as goal

pub returns : goal.returns
unfolding cards_of
returns c = refl
