-- `tables::fill::beside` meets its contract.
use Rattle.std.proofs.Common.{◌+◌, ◌≤◌, length, ⊎_elim, arith, length-append, ◌++◌}
use Rattle.tables.proofs.LendLaws.{part-low, part-high}
use Rattle.tables.proofs.fill.beside.Goals as goal

pub returns-then-from-low : goal.returns-then-from-low
returns-then-from-low c = λ v e. part-low c.args.low.now v c.args.high.now c.args.from c.args.n (⊎_elim (λ h. h) (λ h. omega arith) c.requires)

pub returns : goal.returns
returns c = λ v e.
    let s = c.args in
    let low = s.low.now in
    let high = s.high.now in
    let h : length low + s.n ≤ s.from = ⊎_elim (λ h. omega arith) (λ h. h.0) c.requires in
    let g : s.from ≤ length low + length high = ⊎_elim (λ h. omega arith) (λ h. h.1) c.requires in
    part-high low v high s.from s.n e h g (omega (arith, length-append low (v ++ high), length-append v high))
