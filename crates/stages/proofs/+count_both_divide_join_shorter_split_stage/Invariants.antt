use mathlib.Core.List.{List}
use Prim.Native.Nat.{ℕ, ◌+◌, ◌*◌, ◌≤◌}
use Rattle.rules.specs.Cell.{width}
use Rattle.rules.specs.Settings.{settings_of}
use Rattle.stages.specs.Begins.{may_take}
use Rattle.stages.specs.Staging.{Splits}
use Rattle.stages.proofs.ChildLaws.{stage_rank, divide_rank, join_rank}
use Rattle.stages.proofs.SplitStageLaws.{Axis, Turn}
use Rattle.stages.proofs.+count_both_divide_join_shorter_split_stage.Given as goal

abbrev pub decreases-count_both : goal.decreases-count_both
decreases-count_both l = 16 * width l.ks + 9

abbrev pub decreases-divide : goal.decreases-divide
decreases-divide l = divide_rank l.sought l.ks

abbrev pub decreases-join : goal.decreases-join
decreases-join l = join_rank (may_take l.begin) l.ks

abbrev pub decreases-shorter : goal.decreases-shorter
decreases-shorter l = 16 * width l.ks + 10

abbrev pub decreases-split : goal.decreases-split
decreases-split l = 16 * width l.ks

abbrev pub decreases-stage : goal.decreases-stage
decreases-stage l = stage_rank (may_take l.begin) l.ks

abbrev pub invariant-split-loop-k : goal.invariant-split-loop-k
invariant-split-loop-k l = (l.k ≤ l.values) × ((ks : List ℕ) → Splits (settings_of l.how) l.m l.i ks l.c l.initial.w l.r → Axis ks l.i l.b l.n l.step l.values → Turn (settings_of l.how) l.m l.i ks l.c l.want l.initial.w l.initial.network l.r l.k l.total l.w l.network)
