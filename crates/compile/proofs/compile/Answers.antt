-- `compile::compile` meets its contract.
use Rattle.compile.proofs.RowLaws.{compiles_as}
use Rattle.compile.proofs.compile.Goals as goal

pub returns : goal.returns
returns c = compiles_as c.usual.ensures c.compile_with.ensures
