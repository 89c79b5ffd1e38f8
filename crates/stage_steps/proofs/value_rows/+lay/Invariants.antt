use Rattle.stage_steps.proofs.value_rows.+lay.Given as goal

abbrev pub decreases-lay : goal.decreases-lay
decreases-lay l = l.tables
