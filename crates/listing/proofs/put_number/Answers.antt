-- `listing::put_number` meets its contract.
use mathlib.Core.Path.{◌∙◌, ap}
use native.Mathlib.Omega.{arith}
use Rattle.rules.specs.Listing.{decimal}
use Rattle.listing.proofs.PutLaws.{put_as, put-within}
use Rattle.listing.proofs.DecimalLaws.{fewest-decimal, few_digits}
use Rattle.listing.proofs.put_number.Goals as goal

pub put-requires : goal.put-requires
put-requires c =
    let d = c.decimal-n in
    let k = few_digits d.result c.from.result (omega arith) d.ensures.len in
    omega arith

pub returns : goal.returns
returns c =
    let d = c.decimal-n in
    let k = few_digits d.result c.from.result (omega arith) d.ensures.len in
    put-within 5 (omega arith) (put_as (d.ensures.digits ∙ fewest-decimal d.result c.from.result d.ensures.len ∙ ap decimal c.from.ensures) c.put.ensures)
