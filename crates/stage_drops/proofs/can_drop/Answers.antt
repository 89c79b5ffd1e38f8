-- `stage_drops::can_drop` meets its contract.
use Prim.Native.Nat.{◌<◌}
use mathlib.Core.Path.{◌≡◌, ◌∙◌}
use native.Mathlib.Omega.{arith}
use borrow.Author.Rules.{rules}
use lib.Dec.{leb}
use lib.ListN.{length}
use Rattle.rules.specs.Bytes.{at}
use Rattle.lines.specs.Along.{LineOn, least_on}
use Rattle.lines.proofs.AlongLaws.{walks_line}
use Rattle.lines.proofs.WalkLaws.{axis_of, axis-lined, axis-walks, all_gave}
use Rattle.stage_drops.proofs.CanDropLaws.{drop_cell, drop_at, drop_all}
use Rattle.stage_drops.proofs.can_drop.Goals as goal

pub all_cells-requires-clause-lined : goal.all_cells-requires-clause-lined
all_cells-requires-clause-lined c = axis-lined (axis_of c.requires.0 (search rules)) c.requires.1.shaped

pub all_cells-requires-clause-takes : goal.all_cells-requires-clause-takes
all_cells-requires-clause-takes c = λ k on h o.
    let s = c.args in
    let p = c.requires.1 in
    let e = p.own in
    let r = p.room in
    let a : k < length s.w.now = omega arith in
    let l : LineOn s.w.now s.n k on =
    walks_line p.shaped (axis-walks (axis_of c.requires.0 (search rules)) o) s.w.now s.n (omega arith) (omega arith) in
    search rules

pub returns : goal.returns
returns c =
    let s = c.args in
    let p = c.requires.1 in
    let e = p.own in
    all_gave (drop_cell s.w.now s.ks s.i s.n)
    (λ k on r h o m.
    let found : r ≡ leb (at s.w.now k) (least_on s.w.now s.n k on) = search rules in
    found ∙ drop_at s.w.now s.ks s.i s.n p.shaped (axis-walks (axis_of c.requires.0 (search rules)) o) (omega arith))
    c.all_cells.ensures.passed c.all_cells.ensures.failed ∙ drop_all s.w.now s.ks s.i s.n e
