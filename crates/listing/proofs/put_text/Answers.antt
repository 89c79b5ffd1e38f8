-- `listing::put_text` meets its contract.
use mathlib.Core.Path.{sym, ap}
use Prim.Native.Nat.{◌<◌}
use native.Mathlib.Omega.{arith}
use borrow.Author.Rules.{rules}
use Rattle.rules.specs.Bytes.{at}
use Rattle.rules.specs.Listing.{record_text}
use Rattle.shape.specs.Shapes.{places_of}
use Rattle.laws.proofs.KindLaws.{kind_max}
use Rattle.listing.proofs.PutLaws.{put_as, put-within}
use Rattle.listing.proofs.put_text.Goals as goal

pub returns-in-Ok-Gate-Max : goal.returns-in-Ok-Gate-Max
returns-in-Ok-Gate-Max c =
    let a = c.args in
    let last : 2 < at a.bytes.now 0 = search rules in
    put-within 56 (omega arith)
    (put_as (sym (ap record_text (kind_max (places_of a.shape) a.bytes.now (λ e. omega arith) (λ e. omega arith) (λ e. omega arith)))) c.put_gate-in-Ok-Gate-Max.ensures)
