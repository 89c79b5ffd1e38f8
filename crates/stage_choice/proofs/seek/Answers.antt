-- `stage_choice::seek` meets its contract.
use mathlib.Core.Path.{◌≡◌}
use lib.ListN.{length}
use Rattle.stage_choice.proofs.SpaceLaws.{spaced-same}
use Rattle.stage_choice.proofs.ChoiceLaws.{room-spaced, limits-inside, pair_is, space, first-here, sought_some}
use borrow.Author.Rules.{rules}
use Rattle.stage_choice.proofs.seek.Goals as goal

pub group-requires : goal.group-requires
group-requires c =
    let b = c.args in
    let p = c.requires.0 in
    let l = c.lay_limits-low.ensures in (
      p.own,
      space p.shaped p.own (spaced-same l.len (room-spaced p)) _ (limits-inside b.gate b.n l.place),
      first-here b.gate b.m b.w.now b.ks p.own l (pair_is c.in_ok-i.was c.requires.2),
    )

pub returns : goal.returns
returns c =
    let b = c.args in
    let p = c.requires.0 in
    let l = c.lay_limits-low.ensures in
    let e : length b.ks ≡ 8 = search rules in
    sought_some b.gate b.m b.w.now b.ks p.own l e
    (space p.shaped p.own (spaced-same l.len (room-spaced p)) _ (limits-inside b.gate b.n l.place)) c.group.ensures
