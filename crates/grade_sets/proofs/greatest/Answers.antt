-- `grade_sets::greatest` meets its contract.
use Prim.Native.Nat.{◌<◌}
use mathlib.Core.Path.{sym}
use borrow.Author.Rules.{rules}
use Rattle.grade_sets.proofs.BitLaws.{greatest-log}
use Rattle.grade_sets.proofs.greatest.Goals as goal

pub returns : goal.returns
returns c =
    let few : c.args.set < 65536 = search rules in
    sym (greatest-log 16 c.args.set c.ilog2.result few c.ilog2.ensures.power_le c.ilog2.ensures.next_power_gt)
