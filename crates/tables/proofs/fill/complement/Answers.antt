-- `tables::fill::complement` meets its contract.
use Rattle.std.proofs.Common.{◌-◌, ◌∙◌, ap, sym, length, arith}
use Rattle.rules.specs.Bytes.{at, tabulate}
use Rattle.laws.proofs.TableLaws.{at-tabulate}
use Rattle.tables.specs.Part.{part}
use Rattle.tables.proofs.LendLaws.{laid_between, beside-part}
use Rattle.tables.proofs.PartLaws.{part_length}
use Rattle.tables.proofs.fill.complement.Goals as goal

pub lacks-requires : goal.lacks-requires
lacks-requires c =
    let s = c.args in
    let p = c.split_at_mut-low.ensures in
    let q = c.split_at_mut-cells.ensures in
    let e = beside-part s.w.now _ _ _ _ s.to s.n p.value p.front_len q.value q.front_len c.beside.result.now s.from c.beside.ensures in
    let size = ap length e ∙ part_length s.w.now s.from s.n c.requires.0.src in
    (q.front_len ∙ sym size, λ k h. rw e (c.requires.1 k (omega (arith, size))))

pub returns : goal.returns
returns c =
    let s = c.args in
    let p = c.split_at_mut-low.ensures in
    let q = c.split_at_mut-cells.ensures in
    let e = beside-part s.w.now _ _ _ _ s.to s.n p.value p.front_len q.value q.front_len c.beside.result.now s.from c.beside.ensures in
    let size = ap length e ∙ part_length s.w.now s.from s.n c.requires.0.src in
    laid_between s.w.now _ _ _ _ s.to s.n p.value p.front_len q.value q.front_len c.lacks.new.cells (tabulate s.n (λ k. s.top - at (part s.w.now s.from s.n) k))
    (c.lacks.auto.cells ∙ q.front_len)
    (λ k h. c.lacks.ensures k (omega (arith, size)) ∙ ap (λ l. s.top - at l k) e ∙ sym (at-tabulate s.n _ k h))
