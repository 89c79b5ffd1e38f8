-- `grouping::growing::start_sets` meets its contract.
use Prim.Native.Nat.{◌*◌}
use native.Mathlib.Omega.{arith}
use Rattle.tables.proofs.LendLaws.{back}
use Rattle.grouping.proofs.KeptLaws.{lent-least, in_place, beside, started}
use Rattle.grouping.proofs.growing.start_sets.Goals as goal

pub returns : goal.returns
returns c =
    let s = c.args in
    let p = c.requires in
    let l = lent-least s.w.now s.high (2 * s.n) s.n s.n p.4 (omega arith) s.ks s.j p.2 c.over_one.ensures in
    let e = l.len in
    started s.i s.j (beside p.2 p.4) l
    (in_place (back s.high (2 * s.n) s.w.now c.over_one.new.w) s.high s.n (omega arith) s.ks s.i p.2 c.over_one-2.ensures)
