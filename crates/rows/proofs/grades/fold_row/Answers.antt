-- `rows::grades::fold_row` meets its contract.
use Rattle.std.proofs.Common.{ℕ, ◌+◌, List, sym, ◌∙◌, ap, ap₂, length, arith}
use Rattle.rules.specs.Bytes.{at, tabulate}
use Rattle.laws.proofs.TableLaws.{at-tabulate}
use Rattle.tables.specs.Line.{best}
use Rattle.tables.proofs.PartLaws.{part_at, part_length}
use Rattle.tables.proofs.LendLaws.{laid_between}
use Rattle.rows.specs.Grades.{source}
use Rattle.rows.proofs.GradesLaws.{row-part}
use Rattle.rows.proofs.grades.fold_row.Goals as goal

pub extremes-requires : goal.extremes-requires
extremes-requires c =
    let s = c.args in
    let p = c.split_at_mut-low.ensures in
    let q = c.split_at_mut-answers.ensures in
    let e = row-part s.lent.now s.w.now _ _ _ _ s.to s.n p.value p.front_len q.value q.front_len c.row.result.now s.from c.row.ensures in
    q.front_len ∙ sym (ap length e ∙ part_length (source s.lent.now s.w.now) s.from s.n c.requires.0.src)

pub returns : goal.returns
returns c =
    let s = c.args in
    let p = c.split_at_mut-low.ensures in
    let q = c.split_at_mut-answers.ensures in
    let g = source s.lent.now s.w.now in
    let e = row-part s.lent.now s.w.now _ _ _ _ s.to s.n p.value p.front_len q.value q.front_len c.row.result.now s.from c.row.ensures in
    let size = ap length e ∙ part_length g s.from s.n c.requires.0.src in
    laid_between s.w.now _ _ _ _ s.to s.n p.value p.front_len q.value q.front_len c.extremes.new.answers (tabulate s.n (λ o. best s.greatest (at s.w.now (s.to + o)) (at g (s.from + o))))
    (c.extremes.auto.answers ∙ q.front_len)
    (λ k h.
    c.extremes.ensures k (omega (arith, size))
    ∙ ap₂ (best s.greatest) (q.by_index.0 k 0 h ∙ p.by_index.1 k 0) (ap (λ (l : List ℕ). at l k) e ∙ part_at g s.from s.n k h)
    ∙ sym (at-tabulate s.n _ k h))
