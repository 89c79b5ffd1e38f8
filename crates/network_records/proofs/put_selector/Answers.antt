-- `network_records::put_selector` meets its contract.
use mathlib.Core.Path.{sym, ◌∙◌, ap}
use lib.Dec.{eqb}
use Rattle.rules.specs.Bytes.{pick, tabulate}
use Rattle.rules.specs.Network.{literal, record_bytes}
use Rattle.tables.proofs.PartLaws.{laid_as}
use Rattle.network_records.proofs.PutLaws.{put_one}
use Rattle.network_records.proofs.LiteralLaws.{literal_selector, greatest-one}
use Rattle.network_records.proofs.put_selector.Goals as goal

pub returns : goal.returns
returns c =
    let a = c.args in
    let selector = literal a.condition (tabulate a.card (λ v. pick (eqb v a.k) a.top 0)) in
    put_one selector
    (laid_as
    (literal_selector a.card a.k a.top c.requires.1 c.requires.2 a.condition c.literal_bytes-bytes.ensures
    ∙ ap (record_bytes selector) (sym (greatest-one a.card a.k a.top c.requires.2)))
    c.put.ensures)
