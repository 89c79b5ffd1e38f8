-- `shape::place_sound` meets its contract.
use borrow.Author.Tests.{lt-ltb, le-ltb, lt-leb, le-leb}
use Rattle.shape.proofs.place_sound.Goals as goal

pub returns-then-card-ge2 : goal.returns-then-card-ge2
returns-then-card-ge2 c = simp (lt-ltb _ _ c.if-i-n.true, le-leb _ _ c.if-card-ge2.true)

pub returns-else-card-ge2 : goal.returns-else-card-ge2
returns-else-card-ge2 c = simp (lt-ltb _ _ c.if-i-n.true, lt-leb _ _ c.if-card-ge2.false)

pub returns-else-i-n : goal.returns-else-i-n
returns-else-i-n c = simp (le-ltb _ _ c.if-i-n.false)
