-- `stage_drops::drop_last` meets its contract.
use mathlib.Core.Path.{◌≡◌}
use lib.ListN.{length}
use borrow.Author.Rules.{rules}
use Rattle.stage_drops.proofs.LastLaws.{last-counts, last-turned}
use Rattle.stage_drops.proofs.drop_last.Goals as goal

pub drop_if_possible-requires : goal.drop_if_possible-requires
drop_if_possible-requires c =
    let p = c.requires in
    let e : length c.args.ks ≡ 8 = search rules in
    last-counts c.args.w.now p.0 p.1 p.2 c.if-low-lt-PLACES.true e

pub returns-then-low-lt-PLACES : goal.returns-then-low-lt-PLACES
returns-then-low-lt-PLACES c =
    let p = c.requires in
    let e : length c.args.ks ≡ 8 = search rules in
    let l = c.if-low-lt-PLACES.true in
    (last-turned c.args.w.now p.0 p.1 p.2 l e c.drop_if_possible.ensures, λ h. l)
