-- `listing::put_listing` meets its contract.
use mathlib.Core.Path.{sym, ap}
use mathlib.Core.List.{◌++◌}
use Prim.Native.Nat.{ℕ}
use Rattle.rules.specs.Network.{records_from}
use Rattle.rules.specs.Listing.{lines_from, count_line}
use Rattle.laws.proofs.RecordLaws.{length-records_from}
use Rattle.shape.specs.Shapes.{places_of}
use Rattle.listing.proofs.PutLaws.{put_then, put_as}
use Rattle.listing.proofs.put_listing.Goals as goal

pub returns : goal.returns
returns c =
    let a = c.args in
    let ks = places_of a.shape in
    let net = a.network.now in
    put_as (ap (λ (n : ℕ). lines_from 0 (records_from ks net 0 a.count) ++ count_line n) (sym (length-records_from ks net 0 a.count)))
    (put_then c.put_records-next.ensures c.put_answer.ensures)
