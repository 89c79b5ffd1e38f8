-- `tables::fill::fill` meets its contract.
use Rattle.std.proofs.Common.{rules, ◌∙◌, ◌≡◌, sym, ap, length, replicate}
use Rattle.std.proofs.lemmas.List.{get_or-replicate, length-replicate}
use Rattle.rules.specs.Bytes.{at, tabulate}
use Rattle.laws.proofs.TableLaws.{at-tabulate}
use Rattle.tables.proofs.LendLaws.{lent_length, laid_over}
use Rattle.tables.proofs.fill.fill.Goals as goal

pub returns : goal.returns
returns c =
    let a = c.args in
    let size = lent_length a.to a.n a.w.now c.requires in
    let e : c.fill.new.self ≡ replicate a.n a.grade = c.fill.ensures.after (λ y h. search rules) ∙ ap (λ n. replicate n a.grade) size in
    laid_over a.to a.n c.fill.new.self (tabulate a.n (λ _. a.grade)) c.requires (ap length e ∙ length-replicate a.n a.grade)
    (λ k h. ap (λ l. at l k) e ∙ get_or-replicate a.n k a.grade 0 h ∙ sym (at-tabulate a.n (λ _. a.grade) k h))
