-- `listing::put_constant` meets its contract.
use mathlib.Core.Path.{ap}
use mathlib.Core.List.{◌++◌}
use Prim.Native.Nat.{ℕ}
use Rattle.rules.specs.Listing.{text, field}
use Rattle.listing.proofs.PutLaws.{put_then, put_as}
use Rattle.listing.proofs.put_constant.Goals as goal

pub returns : goal.returns
returns c = put_as (ap (λ (n : ℕ). text " C" ++ field n) c.from.ensures) (put_then c.put-next.ensures c.put_field.ensures)
