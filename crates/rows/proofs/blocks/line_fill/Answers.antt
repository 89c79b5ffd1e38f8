-- `rows::blocks::line_fill` meets its contract.
use Prim.Native.Nat.{ℕ, ◌+◌}
use mathlib.Core.Path.{sym, subst}
use lib.ListN.{set}
use Rattle.tables.specs.Line.{Spread}
use Rattle.tables.proofs.LineLaws.{spread_two}
use Rattle.rows.proofs.blocks.line_fill.Goals as goal

pub returns-then-card-eq2 : goal.returns-then-card-eq2
returns-then-card-eq2 c =
    let s = c.args in
    subst (λ (k : ℕ). Spread s.w.now s.a s.step (λ _. s.grade) k (set (set s.w.now s.a s.grade) (s.a + s.step) s.grade)) (sym c.if-card-eq2.true) (spread_two s.grade c.requires c.if-card-eq2.true)
