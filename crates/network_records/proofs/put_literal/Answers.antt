-- `network_records::put_literal` meets its contract.
use mathlib.Core.Path.{◌≡◌, ◌∙◌, ap}
use Rattle.rules.specs.Bytes.{at, tabulate, greatest}
use Rattle.rules.specs.Network.{literal, record_bytes}
use Rattle.tables.proofs.PartLaws.{laid_as}
use Rattle.network_records.proofs.PutLaws.{put_one}
use Rattle.network_records.proofs.LiteralLaws.{literal_table, greatest-front}
use Rattle.network_records.proofs.put_literal.Goals as goal

pub returns : goal.returns
returns c =
    let a = c.args in
    let table = a.table.now in
    let top : c.greatest-top.result ≡ greatest (tabulate a.card (at table)) = c.greatest-top.ensures ∙ greatest-front table a.card c.requires.2 in
    put_one (literal a.condition (tabulate a.card (at table)))
    (laid_as
    (literal_table a.condition c.greatest-top.result a.card table c.requires.1 c.requires.2 c.literal_bytes-bytes.ensures c.put.ensures
    ∙ ap (record_bytes (literal a.condition (tabulate a.card (at table)))) top)
    c.put-2.ensures)
