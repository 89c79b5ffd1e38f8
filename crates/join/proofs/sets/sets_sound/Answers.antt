-- `join::sets::sets_sound` meets its contract.
use Rattle.std.proofs.Common.{◌∙◌, rules, tests}
use Rattle.std.proofs.lemmas.Iterator.{YieldsList-from_slice}
use Rattle.std.proofs.lemmas.Iterator.Consumers.{YieldsList-from_enumerate}
use Rattle.std.proofs.lemmas.Iterator.Search.{all_from_yields_List}
use Rattle.join.proofs.SetsLaws.{member_test, sets_listed}
use Rattle.join.proofs.sets.sets_sound.Goals as goal

pub returns-then-t-ne0 : goal.returns-then-t-ne0
returns-then-t-ne0 c =
    all_from_yields_List (member_test c.args.s c.args.t) _ _ _ c.all.ensures.ran (YieldsList-from_enumerate (YieldsList-from_slice c.args.ks cc) cc) (λ x b q k. search (rules, tests))
    ∙ sets_listed c.args.ks c.args.s c.args.t (search rules) c.if-t-ne0.true
