-- `stage_choice::choose` meets its contract.
use mathlib.Core.Path.{subst}
use Rattle.rules.specs.declared.Gate.{Gate}
use Rattle.rules.specs.Settings.{settings_of}
use Rattle.stage_choice.specs.Choosing.{Decided}
use Rattle.stage_choice.proofs.ChoiceLaws.{own-length, seek_min, seek_max, is-chosen}
use borrow.Author.Rules.{rules}
use Rattle.stage_choice.proofs.choose.Goals as goal

pub seek-by_min-requires : goal.seek-by_min-requires
seek-by_min-requires c = let p = c.requires in seek_min p.0 p.1 p.2 c.first_pair-for_min.ensures

pub seek-by_max-requires : goal.seek-by_max-requires
seek-by_max-requires c = let p = c.requires in seek_max p.0 p.1 p.2 c.first_pair-for_max.ensures c.seek-by_min.ensures

pub returns : goal.returns
returns c =
    let p = c.requires.0 in
    let by-min = c.seek-by_min in
    let by-max = c.seek-by_max in
    let d = subst (λ (g : Gate). Decided g by-max.result by-min.result c.decide-choice.result) c.tie-tie.ensures c.decide-choice.ensures in
    is-chosen (own-length p) by-min.ensures by-max.ensures (settings_of c.args.how) c.decide-choice.result p.own d c.settle.ensures (search rules)
