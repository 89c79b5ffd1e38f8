-- `mask_making::mark_condition` meets its contract.
use mathlib.Core.Path.{sym, ◌∙◌}
use borrow.Author.Rules.{rules}
use Rattle.mask_making.proofs.TwoLaws.{two_blocks, two-marked}
use Rattle.mask_making.proofs.mark_condition.Goals as goal

pub mark_blocks-requires : goal.mark_blocks-requires
mark_blocks-requires c =
    let p = c.requires in
    (two_blocks p.2 p.0 (sym p.1 ∙ c.if-values-eq2.true) (search rules), p.3)

pub returns-then-values-eq2 : goal.returns-then-values-eq2
returns-then-values-eq2 c =
    let p = c.requires in
    let two = sym p.1 ∙ c.if-values-eq2.true in
    two-marked p.2 p.0 two (two_blocks p.2 p.0 two (search rules)) c.mark_blocks.ensures
