use Rattle.std.specs.Int.Bits.{bit_or}
use Rattle.masks.proofs.AddLaws.{Turned}
use Rattle.masks.proofs.add.Given as goal

abbrev pub invariant-loop-mask : goal.invariant-loop-mask
invariant-loop-mask l = Turned (λ x. bit_or x l.bit) l.initial.mask-items l.mask-index l.mask-items
