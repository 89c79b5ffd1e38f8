-- `grouping::joins::may_add` meets its contract.
use Prim.Native.Nat.{ℕ, ◌+◌, ◌<◌, max}
use mathlib.Core.Path.{◌≡◌, ◌∙◌, ap}
use native.Mathlib.Omega.{arith}
use borrow.Author.Rules.{rules}
use lib.ListN.{length}
use lib.Dec.{leb}
use Rattle.rules.specs.Bytes.{at, all}
use Rattle.lines.specs.Along.{LineOn, least_on}
use Rattle.lines.proofs.AlongLaws.{walks_line}
use Rattle.lines.proofs.WalkLaws.{axis_of, axis-lined, axis-walks, all_gave}
use Rattle.grouping.proofs.JoiningLaws.{add_cell, add_at}
use Rattle.grouping.specs.Joining.{admits}
use Rattle.grouping.proofs.joins.may_add.Goals as goal

pub all_cells-requires-clause-lined : goal.all_cells-requires-clause-lined
all_cells-requires-clause-lined c = axis-lined (axis_of c.requires.0 (search rules)) c.requires.1.shaped

pub all_cells-requires-clause-takes : goal.all_cells-requires-clause-takes
all_cells-requires-clause-takes c = λ k on h o.
    let s = c.args in
    let t = c.requires in
    let e = t.0.count in
    let p = t.1.second in
    let q = t.2.second in
    let a : s.low + k < length s.w.now = let f = t.1.first in omega arith in
    let b : s.keep + k < length s.w.now = omega arith in
    let l : LineOn s.w.now s.grow k on = walks_line t.1.shaped (axis-walks (axis_of c.requires.0 (search rules)) o) s.w.now s.grow q (omega arith) in
    search rules

pub returns : goal.returns
unfolding admits
returns c =
    let s = c.args in
    let t = c.requires in
    let e = t.0.count in
    all_gave (add_cell s.w.now s.ks s.i s.low s.keep s.grow)
    (λ k on r h o m.
    let found : r ≡ leb (at s.w.now (s.low + k)) (max (at s.w.now (s.keep + k)) (least_on s.w.now s.grow k on)) = search rules in
    found ∙ add_at s.w.now s.ks s.i s.low s.keep s.grow t.1.shaped (axis-walks (axis_of c.requires.0 (search rules)) o) (omega arith))
    c.all_cells.ensures.passed c.all_cells.ensures.failed ∙ ap (λ (n : ℕ). all n (add_cell s.w.now s.ks s.i s.low s.keep s.grow)) e
