use lib.ListN.{length}
use mathlib.Core.Path.{◌≡◌}
use Rattle.stage_steps.proofs.CutLaws.{Sought}
use Rattle.stage_steps.proofs.cuts.most_values.Given as goal

abbrev pub invariant-loop-number : goal.invariant-loop-number
invariant-loop-number l = (eight : length l.fn.ks ≡ 8) → Sought l.fn.ks eight l.number l.found l.step
