-- `listing::put_records` meets its contract.
use mathlib.Core.Path.{◌≡◌, sym, ap, subst, ◌∙◌}
use mathlib.Core.List.{List, []}
use Prim.Native.Nat.{ℕ, ◌+◌, ◌*◌}
use native.Mathlib.Omega.{arith}
use lib.ListN.{take, get_or, length-take}
use lib.Seq.{get_or-take}
use Rattle.rules.specs.Bytes.{record_at}
use Rattle.rules.specs.Network.{record_of, records_from}
use Rattle.rules.specs.Listing.{record_line, lines_from}
use Rattle.laws.proofs.RecordLaws.{record_read}
use Rattle.shape.specs.Shapes.{places_of}
use Rattle.listing.specs.Putting.{Put}
use Rattle.listing.proofs.PutLaws.{put_then, put_as, put-within, lines_more}
use Rattle.listing.proofs.put_records.Goals as goal

pub loop-r-preserved : goal.loop-r-preserved
loop-r-preserved c =
    let l = c.loop-r in
    let a = c.args in
    let ks = places_of a.shape in
    let net = a.network.now in
    let long = length-take a.count c.as_chunks.result.0.now in
    let read : get_or (take a.count c.as_chunks.result.0.now) l.r [] ≡ record_at net l.r =
    get_or-take a.count c.as_chunks.result.0.now l.r [] (omega arith) ∙ record_read net l.r c.as_chunks.ensures.front (omega arith) in
    let line = put_as (ap (λ (b : List ℕ). record_line l.r (record_of ks b)) read) c.put_record-next.ensures in
    put-within (62 * (l.r + 1)) (omega arith) (put_as (sym (lines_more ks net l.r)) (put_then l.invariant line))

pub returns : goal.returns
returns c =
    let l = c.loop-r in
    let a = c.args in
    let long = length-take a.count c.as_chunks.result.0.now in
    let e : l.r ≡ a.count = omega arith in
    subst (λ (n : ℕ). Put a.out.now 0 (lines_from 0 (records_from (places_of a.shape) a.network.now 0 n)) (62 * n) l.next l.out) e l.invariant
