-- `tables::fill::load_complement` meets its contract.
use Rattle.std.proofs.Common.{◌-◌, ◌∙◌, ap, sym, arith}
use Rattle.std.proofs.lemmas.List.{length-take-le}
use lib.Seq.{get_or-take}
use Rattle.rules.specs.Bytes.{at, tabulate}
use Rattle.laws.proofs.TableLaws.{at-tabulate}
use Rattle.tables.proofs.LendLaws.{laid_over, lent_length}
use Rattle.tables.proofs.fill.load_complement.Goals as goal

pub returns : goal.returns
returns c =
    let s = c.args in
    let from = s.from.now in
    laid_over s.to s.n c.lacks.new.cells (tabulate s.n (λ k. s.top - at from k)) c.requires.1 (c.lacks.auto.cells ∙ lent_length s.to s.n s.w.now c.requires.1)
    (λ k h. c.lacks.ensures k (omega (arith, length-take-le s.n from c.requires.0)) ∙ ap (λ x. s.top - x) (get_or-take s.n from k 0 h) ∙ sym (at-tabulate s.n _ k h))
