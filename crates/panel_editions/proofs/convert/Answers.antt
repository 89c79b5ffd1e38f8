-- `panel_editions::convert` meets its contract.
use mathlib.Core.Path.{◌∙◌, sym, ap}
use lib.ListN.{length}
use Rattle.rules.specs.Editions.{convert_call}
use Rattle.panel_answers.specs.Answers.{outcome_number}
use Rattle.panel_answers.proofs.OutcomeLaws.{reply_number_lem, is-written}
use Rattle.panel_editions.proofs.convert.Goals as goal

pub returns : goal.returns
returns c =
    let a = c.args in
    record {
      answer = c.of_outcome.ensures ∙ ap outcome_number c.convert.ensures.answer ∙ reply_number_lem (λ turned. tt) (λ u. 0) (convert_call a.edition a.file.now (length a.out.now));
      out-after = c.convert.ensures.out-after;
      converted = λ z. c.convert.ensures.converted (is-written _ (sym c.of_outcome.ensures ∙ z));
    }
