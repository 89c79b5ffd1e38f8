use Prim.Native.Nat.{◌-◌}
use Rattle.stage_steps.proofs.value_rows.+give.Given as goal

abbrev pub decreases-give : goal.decreases-give
decreases-give l = l.last - l.first
