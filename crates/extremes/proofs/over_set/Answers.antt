-- `extremes::over_set` meets its contract.
use native.Mathlib.Omega.{arith}
use borrow.Author.Rules.{rules}
use Rattle.laws.proofs.CellLaws.{cells_pos}
use Rattle.laws.proofs.TestLaws.{by_order}
use lib.Dec.{T}
use Rattle.rules.specs.Cell.{has}
use Prim.Native.Nat.{ℕ}
use mathlib.Core.Path.{sym, subst}
use Rattle.rows.specs.Blocks.{Tables}
use Rattle.places.proofs.MemberLaws.{lower}
use Rattle.extremes.proofs.WalkLaws.{none_swept, swept_over, top_tables, top-over, along-tables, runs_swept, lines_swept}
use Rattle.extremes.proofs.over_set.Goals.{After-step-size}
use Rattle.extremes.proofs.over_set.Goals as goal

pub returns-then-lowest-eq-PLACES : goal.returns-then-lowest-eq-PLACES
returns-then-lowest-eq-PLACES c =
    let s = c.args in
    let l = c.lowest-lowest.ensures in
    let p = cells_pos s.ks c.requires.1.some in
    let e = c.requires.0 in
    swept_over s.greatest c.requires.0 (omega arith) (none_swept s.greatest c.requires.1 (search rules) c.requires.0 (λ j lt. l.none j (let q = c.if-lowest-eq-PLACES.true in omega arith)) c.take_row.ensures)

-- the whole table, from its highest member down
tables : (c : After-step-size)
    → Tables c.args.ks c.highest-top.result c.step-size.result c.args.n
tables c = top_tables c.requires.1 (search rules) c.requires.0 c.highest-top.ensures.top c.step-size.ensures

pub runs-requires : goal.runs-requires
runs-requires c = ((tables (goal.at.runs-requires c).After-step-size).several, c.requires.2)

pub returns-then-top-run : goal.returns-then-top-run
returns-then-top-run c =
    let s = c.args in
    let h = c.highest-top.ensures in
    top-over c.requires.1 (search rules) c.requires.0 h.top c.step-size.ensures s.greatest h.none
    (runs_swept s.greatest (tables (goal.at.returns-then-top-run c).After-step-size) s.set (λ j lt. c.run-run.ensures.inside j (let q = c.if-top-run.true in omega arith)) c.runs.ensures)

pub along-requires : goal.along-requires
along-requires c = (along-tables (tables (goal.at.along-requires c).After-step-size), c.requires.2)

pub returns-then-top-lowest : goal.returns-then-top-lowest
returns-then-top-lowest c =
    let s = c.args in
    let l = c.lowest-lowest.ensures in
    let h = c.highest-top.ensures in
    let e = c.if-top-lowest.true in
    top-over c.requires.1 (search rules) c.requires.0 h.top c.step-size.ensures s.greatest h.none
    (lines_swept s.greatest (tables (goal.at.returns-then-top-lowest c).After-step-size) s.set (subst (λ (j : ℕ). T (has s.set j)) (sym e) (l.member (lower l.top c.if-lowest-eq-PLACES.false))) (λ j lt. l.none j (omega arith)) c.along.ensures)

pub over_places-requires : goal.over_places-requires
over_places-requires c =
    let l = c.lowest-lowest.ensures in
    let h = c.highest-top.ensures in
    let in-set = lower l.top c.if-lowest-eq-PLACES.false in
    let m = l.member in-set in
    (tables (goal.at.over_places-requires c).After-step-size, record { member = m; none = l.none; inside = c.run-run.ensures.inside }, by_order _ _ (λ le. le) (λ lt. absurd (h.none _ lt in-set m)), c.requires.2)

pub returns : goal.returns
returns c =
    let h = c.highest-top.ensures in
    top-over c.requires.1 (search rules) c.requires.0 h.top c.step-size.ensures c.args.greatest h.none c.over_places.ensures
