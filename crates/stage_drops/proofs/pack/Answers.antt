-- `stage_drops::pack` meets its contract.
use Rattle.tables.proofs.PackLaws.{packed_lent}
use Rattle.stage_drops.proofs.pack.Goals as goal

pub returns : goal.returns
returns c = let s = c.args in packed_lent s.greatest s.w.now s.a s.from s.n c.requires.0 c.requires.1 c.pack_blocks.ensures
