-- `join::judge` meets its contract.
use Rattle.std.proofs.Common.{arith}
use Rattle.std.proofs.lemmas.Bool.Decides.{nat_tests}
use Rattle.join.proofs.RowLaws.{judged}
use Rattle.join.proofs.judge.Goals as goal

pub returns-then-not-limits_sound : goal.returns-then-not-limits_sound
returns-then-not-limits_sound c = judged c.requires (grind (arith, nat_tests))

pub returns-then-not-sets_sound : goal.returns-then-not-sets_sound
returns-then-not-sets_sound c = judged c.requires (grind (arith, nat_tests))

pub returns : goal.returns
returns c = judged c.requires (grind (arith, nat_tests))
