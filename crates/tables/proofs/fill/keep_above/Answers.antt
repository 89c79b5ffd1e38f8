-- `tables::fill::keep_above` meets its contract.
use Rattle.rules.specs.Join.{above}
use Rattle.tables.proofs.fill.keep_above.Goals as goal

pub returns : goal.returns
returns c = c.from_two.ensures above (λ x y r h. h)
