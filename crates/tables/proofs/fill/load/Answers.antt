-- `tables::fill::load` meets its contract.
use Rattle.std.proofs.Common.{◌∙◌, ap, length, sym}
use Rattle.std.proofs.lemmas.List.{length-take-le}
use lib.Seq.{get_or-take}
use native.Mathlib.Nat.{zero-add}
use Rattle.rules.specs.Bytes.{at}
use Rattle.tables.specs.Part.{part}
use Rattle.tables.proofs.LendLaws.{laid_over}
use Rattle.tables.proofs.PartLaws.{part_at}
use Rattle.tables.proofs.fill.load.Goals as goal

pub returns : goal.returns
returns c =
    let a = c.args in
    let from = a.from.now in
    let e = c.put.ensures in
    laid_over a.to a.n c.put.new.cells (part from 0 a.n) c.requires.1 (ap length e ∙ length-take-le a.n from c.requires.0)
    (λ k h. ap (λ l. at l k) e ∙ get_or-take a.n from k 0 h ∙ sym (part_at from 0 a.n k h ∙ ap (at from) (zero-add k)))
