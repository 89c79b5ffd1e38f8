-- `tables::fill::combine` meets its contract.
use Rattle.std.proofs.Common.{◌∙◌, ◌≡◌, rules}
use Rattle.rules.specs.Network.{combine}
use Rattle.tables.specs.Line.{best}
use Rattle.tables.proofs.fill.combine.Goals as goal

pub returns : goal.returns
returns c =
    c.from_two.ensures (combine c.args.gate)
    (λ x y r h. let e : r ≡ best c.takes_greater-greater.result x y = search rules in e ∙ c.takes_greater-greater.ensures x y)
