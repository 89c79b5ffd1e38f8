-- `table_records::first_seen` meets its contract.
use mathlib.Core.Path.{refl}
use Rattle.shape.specs.Shapes.{cards_of}
use Rattle.table_records.proofs.first_seen.Goals as goal

pub returns : goal.returns
unfolding cards_of
returns c = refl
