-- `tables::fill::unload` meets its contract.
use Rattle.std.proofs.Common.{◌∙◌, ap, ◌++◌, drop}
use Rattle.tables.proofs.LendLaws.{lent-part}
use Rattle.tables.proofs.fill.unload.Goals as goal

pub returns : goal.returns
returns c = let a = c.args in ap (λ l. l ++ drop a.n a.to.now) (c.put.ensures ∙ lent-part a.from a.n a.w.now)
