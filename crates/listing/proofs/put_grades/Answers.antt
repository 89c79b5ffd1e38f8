-- `listing::put_grades` meets its contract.
use mathlib.Core.Path.{sym, ap, ◌∙◌}
use mathlib.Core.List.{◌++◌}
use Prim.Native.Nat.{ℕ, ◌+◌, ◌*◌}
use native.Mathlib.Omega.{arith}
use lib.ListN.{take}
use Rattle.rules.specs.Listing.{field, fields}
use Rattle.listing.proofs.PutLaws.{put_then, put_as, put-within, fields-more}
use Rattle.listing.proofs.put_grades.Goals as goal

pub loop-grade-preserved : goal.loop-grade-preserved
loop-grade-preserved c =
    let l = c.loop-grade in
    let xs = c.args.grades.now in
    put-within (6 * (l.grade-index + 1)) (omega arith)
    (put_as (ap (λ (n : ℕ). fields (take l.grade-index xs) ++ field n) c.from.ensures ∙ sym (fields-more xs l.grade-index (omega arith)))
    (put_then l.invariant c.put_field-next.ensures))
