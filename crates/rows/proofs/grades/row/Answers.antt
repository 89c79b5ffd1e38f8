-- `rows::grades::row` meets its contract.
use Rattle.std.proofs.Common.{sym, ◌∙◌, ap, ◌++◌, List}
use Prim.Native.Nat.{ℕ}
use Rattle.tables.specs.Part.{part}
use Rattle.tables.proofs.LendLaws.{lent-part}
use Rattle.rows.proofs.GradesLaws.{there}
use Rattle.rows.proofs.grades.row.Goals as goal

pub returns : goal.returns
returns c = λ v e.
    let s = c.args in
    lent-part s.from s.n s.lent.now ∙ ap (λ (x : List ℕ). part x s.from s.n) (sym (there s.lent.now (s.low.now ++ (v ++ s.high.now)) c.if-lent-eq0.false))
