-- `network_records::put_gate` meets its contract.
use mathlib.Core.Path.{◌∙◌}
use native.Mathlib.Omega.{arith}
use Rattle.rules.specs.Network.{gate}
use Rattle.tables.proofs.PartLaws.{laid_as}
use Rattle.network_records.proofs.PutLaws.{put_one, two_bytes, gate-bytes}
use Rattle.network_records.proofs.put_gate.Goals as goal

pub returns : goal.returns
returns c =
    let a = c.args in
    let left = c.copy_from_slice.ensures.after ∙ c.to_le_bytes.ensures ∙ two_bytes a.left (omega arith) in
    let right = c.copy_from_slice-2.ensures.after ∙ c.to_le_bytes-2.ensures ∙ two_bytes a.right (omega arith) in
    let laid = rw (left, right) at c.put.ensures in
    put_one (gate a.by a.left a.right)
    (laid_as (gate-bytes a.by a.net.now a.r a.left a.right c.requires.1 c.requires.2 c.from.ensures c.combined.ensures) laid)
