-- `stage_blocks::lay_limits` meets its contract.
use Rattle.stage_blocks.proofs.BlockLaws.{clear-inside, exchange-upper, exchange-lower, exchanged_room, laid-gate, laid-min}
use Rattle.stage_blocks.proofs.lay_limits.Goals as goal

pub lay-requires : goal.lay-requires
lay-requires c = let p = c.requires in (p.0, p.1, clear-inside p.3.clear, clear-inside p.4.clear)

pub complement-requires : goal.complement-requires
complement-requires c = let b = c.before in exchange-upper b.requires.0 b.requires.3 b.requires.4

pub complement-requires-in-Min : goal.complement-requires-in-Min
complement-requires-in-Min c = let b = c.before in exchange-lower b.requires.0 b.requires.3 b.requires.4 c.complement.ensures

pub lay-requires-in-Min : goal.lay-requires-in-Min
lay-requires-in-Min c =
    let b = c.before in
    let r = exchanged_room b.requires.0 b.requires.3 b.requires.4 c.complement.ensures c.complement-in-Min.ensures in
    (r.0, b.requires.1, r.1, r.2)

pub returns-in-Max : goal.returns-in-Max
returns-in-Max c = let b = c.before in laid-gate b.args.m b.args.low b.args.high c.in-Max.is c.lay.ensures

pub returns-in-Min : goal.returns-in-Min
returns-in-Min c =
    let b = c.before in
    laid-gate b.args.m b.args.low b.args.high c.in-Min.is
    (laid-min b.requires.0 b.requires.3 b.requires.4 c.complement.ensures c.complement-in-Min.ensures c.lay-in-Min.ensures)
