-- `rows::grades::take_row` meets its contract.
use Rattle.std.proofs.Common.{ℕ, List, sym, ◌∙◌, ap, subst, length}
use Rattle.rules.specs.Bytes.{at}
use Rattle.tables.specs.Part.{part, Laid}
use Rattle.tables.proofs.PartLaws.{part_length, laid_self}
use Rattle.tables.proofs.LendLaws.{laid_between}
use Rattle.rows.specs.Grades.{source}
use Rattle.rows.proofs.GradesLaws.{here, taken, row-part}
use Rattle.rows.proofs.grades.take_row.Goals as goal

pub returns-then-from-to : goal.returns-then-from-to
returns-then-from-to c =
    let s = c.args in
    taken s.lent.now s.w.now s.from s.to s.n (here s.lent.now s.w.now c.if-lent-eq0.true)
    (subst (λ (a : ℕ). Laid s.w.now s.to (part s.w.now a s.n) s.n s.w.now) (sym c.if-from-to.true) (laid_self s.w.now s.to s.n))

pub put-requires : goal.put-requires
put-requires c =
    let s = c.args in
    let p = c.split_at_mut-low.ensures in
    let q = c.split_at_mut-answers.ensures in
    let e = row-part s.lent.now s.w.now _ _ _ _ s.to s.n p.value p.front_len q.value q.front_len c.row.result.now s.from c.row.ensures in
    q.front_len ∙ sym (ap length e ∙ part_length (source s.lent.now s.w.now) s.from s.n c.requires.src)

pub returns : goal.returns
returns c =
    let s = c.args in
    let p = c.split_at_mut-low.ensures in
    let q = c.split_at_mut-answers.ensures in
    let g = source s.lent.now s.w.now in
    let e = c.put.ensures ∙ row-part s.lent.now s.w.now _ _ _ _ s.to s.n p.value p.front_len q.value q.front_len c.row.result.now s.from c.row.ensures in
    laid_between s.w.now _ _ _ _ s.to s.n p.value p.front_len q.value q.front_len c.put.new.cells (part g s.from s.n)
    (ap length e ∙ part_length g s.from s.n c.requires.src) (λ k h. ap (λ (l : List ℕ). at l k) e)
