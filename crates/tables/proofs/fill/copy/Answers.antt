-- `tables::fill::copy` meets its contract.
use Rattle.std.proofs.Common.{◌∙◌, ap, sym, length}
use Rattle.rules.specs.Bytes.{at}
use Rattle.tables.specs.Part.{part}
use Rattle.tables.proofs.LendLaws.{laid_between, beside-part}
use Rattle.tables.proofs.PartLaws.{part_length}
use Rattle.tables.proofs.fill.copy.Goals as goal

pub put-requires : goal.put-requires
put-requires c =
    let s = c.args in
    let p = c.split_at_mut-low.ensures in
    let q = c.split_at_mut-cells.ensures in
    let e = beside-part s.w.now _ _ _ _ s.to s.n p.value p.front_len q.value q.front_len c.beside.result.now s.from c.beside.ensures in
    q.front_len ∙ sym (ap length e ∙ part_length s.w.now s.from s.n c.requires.src)

pub returns : goal.returns
returns c =
    let s = c.args in
    let p = c.split_at_mut-low.ensures in
    let q = c.split_at_mut-cells.ensures in
    let e = c.put.ensures ∙ beside-part s.w.now _ _ _ _ s.to s.n p.value p.front_len q.value q.front_len c.beside.result.now s.from c.beside.ensures in
    laid_between s.w.now _ _ _ _ s.to s.n p.value p.front_len q.value q.front_len c.put.new.cells (part s.w.now s.from s.n)
    (ap length e ∙ part_length s.w.now s.from s.n c.requires.src) (λ k h. ap (λ l. at l k) e)
