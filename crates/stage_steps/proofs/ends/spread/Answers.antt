-- `stage_steps::ends::spread` meets its contract.
use Rattle.stage_steps.proofs.EndLaws.{spread_none, copy_room, moved-room, spread_some}
use Rattle.stage_steps.proofs.ends.spread.Goals as goal

pub returns-then-n-c : goal.returns-then-n-c
returns-then-n-c c = spread_none c.requires c.if-n-c.true

pub copy-requires : goal.copy-requires
copy-requires c = copy_room c.requires

pub moved-requires : goal.moved-requires
moved-requires c = let p = c.requires in (p.fewer, p.shaped, p.all, moved-room p c.copy.ensures)

pub returns : goal.returns
returns c = spread_some c.requires c.copy.ensures c.moved.ensures
