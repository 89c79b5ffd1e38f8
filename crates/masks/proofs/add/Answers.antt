-- `masks::add` meets its contract.
use Rattle.std.proofs.Common.{arith}
use Rattle.masks.proofs.AddLaws.{turned_none, turned_more, turned_laid}
use Rattle.masks.proofs.add.Goals as goal

pub loop-mask-init : goal.loop-mask-init
loop-mask-init c = turned_none

pub loop-mask-preserved : goal.loop-mask-preserved
loop-mask-preserved c = turned_more c.loop-mask.invariant (omega arith)

pub returns : goal.returns
returns c = rw (← c.singleton-bit.ensures) (turned_laid c.args.w.now c.args.a c.args.n c.requires.1 c.loop-mask.invariant (omega arith))
