-- `lines::below_at` meets its contract.
use Prim.Native.Nat.{ℕ, ◌+◌, ◌-◌}
use mathlib.Core.Path.{◌≡◌, ◌∙◌, ap, subst}
use mathlib.Core.Bool.{false, not}
use native.Mathlib.Omega.{arith}
use lib.Dec.{leb}
use Rattle.tables.specs.Line.{line_best, Line}
use Rattle.lines.specs.Along.{line_start}
use Rattle.lines.proofs.AlongLaws.{stands-start}
use Rattle.lines.proofs.below_at.Goals.{Else-grade-eq0}
use Rattle.lines.proofs.below_at.Goals as goal

-- the line's start, as it is computed
starts : (c : Else-grade-eq0) → let s = c.args in line_start s.table s.c s.on.step s.on.card + s.on.back ≡ s.table + s.c
starts c = stands-start c.requires.stands c.args.table

pub overflow_add-table : goal.overflow_add-table
overflow_add-table c = let p = c.requires in let e = p.stands.back_is in omega (arith, starts (goal.at.overflow_add-table c).Else-grade-eq0, p.line.inside p.stands.value p.stands.within)

pub below-requires : goal.below-requires
below-requires c =
    let s = c.args in
    subst (λ (a : ℕ). Line s.w.now a s.on.step s.on.card) (let e : line_start s.table s.c s.on.step s.on.card ≡ s.table + s.c - s.on.back = omega (arith, starts (goal.at.below-requires c).Else-grade-eq0) in e) c.requires.line

pub returns : goal.returns
returns c =
    let s = c.args in
    c.below.ensures
    ∙ ap (λ (a : ℕ). not (leb s.grade (line_best false s.w.now a s.on.step s.on.card)))
    (let e : s.table + s.c - s.on.back ≡ line_start s.table s.c s.on.step s.on.card = omega (arith, starts (goal.at.returns c).Else-grade-eq0) in e)
