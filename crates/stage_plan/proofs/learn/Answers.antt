-- `stage_plan::learn` meets its contract.
use Rattle.stage_plan.proofs.PlanLaws.{learnt_made}
use Rattle.stage_plan.proofs.learn.Goals as goal

pub returns-then-not-known : goal.returns-then-not-known
returns-then-not-known c = learnt_made c.requires.0 c.requires.1 c.make.ensures c.args.known
