-- `shape::Shape::cells` meets its contract.
use mathlib.Core.Path.{ap, ◌∙◌}
use Rattle.rules.specs.Cell.{cells}
use Rattle.shape.proofs.Shape.cells.Goals as goal

pub returns : goal.returns
returns c = c.cell_count.ensures ∙ ap cells c.places.ensures
