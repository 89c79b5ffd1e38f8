-- `join_tables::block_sound` meets its contract.
use mathlib.Core.Path.{sym, ◌∙◌}
use Rattle.join_tables.proofs.JudgeLaws.{below-limits, above-limits, judged}
use Rattle.join_tables.proofs.block_sound.Goals.{then-fits, else-fits}
use Rattle.join_tables.proofs.block_sound.Goals as goal

pub returns-then-fits-2 : goal.returns-then-fits-2
returns-then-fits-2 c =
    let r = c.requires in
    elim c.if-fits.branch [
      | then-fits w ↦ judged c.args.t r.0 r.2 (sym w.if-fits.true ∙ c.fits.ensures) (sym c.if-fits-2.true ∙ w.value-is ∙ w.fits-then-fits.ensures) c.blind.ensures
      | else-fits w ↦ cc
    ]

pub returns-else-fits-2 : goal.returns-else-fits-2
returns-else-fits-2 c =
    let r = c.requires in
    rw c.if-fits-2.false
    (elim c.if-fits.branch [
      | then-fits w ↦ above-limits c.args.t r.0 r.2 (sym w.if-fits.true ∙ c.fits.ensures) (sym c.if-fits-2.false ∙ w.value-is ∙ w.fits-then-fits.ensures)
      | else-fits w ↦ below-limits c.args.t r.0 r.2 (sym w.if-fits.false ∙ c.fits.ensures)
    ])
