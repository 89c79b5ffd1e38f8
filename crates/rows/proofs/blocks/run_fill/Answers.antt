-- `rows::blocks::run_fill` meets its contract.
use Rattle.std.proofs.Common.{arith}
use mathlib.Core.Path.{refl}
use native.Mathlib.Nat.{add-zero}
use Rattle.tables.proofs.PartLaws.{filled_none, filled_more, filled_all}
use Rattle.rows.proofs.blocks.run_fill.Goals as goal

pub returns-then-size-eq2 : goal.returns-then-size-eq2
returns-then-size-eq2 c =
    let a = c.args in
    let one = rw (add-zero a.a) at (filled_more a.grade (filled_none a.w.now a.a (λ _. a.grade)) (omega arith) refl) in
    rw c.if-size-eq2.true (filled_all 2 refl (filled_more a.grade one (omega arith) refl))
