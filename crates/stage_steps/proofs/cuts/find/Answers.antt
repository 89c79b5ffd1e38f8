-- `stage_steps::cuts::find` meets its contract.
use mathlib.Core.Path.{sym, subst}
use Rattle.rules.specs.declared.SplitOn.{SplitOn}
use Rattle.rules.specs.Settings.{split_condition}
use Rattle.stage_steps.specs.Cuts.{IsCut}
use Rattle.stage_steps.proofs.CutLaws.{cut-lowest}
use Rattle.stage_steps.proofs.cuts.find.Goals as goal

pub returns-in-Lowest : goal.returns-in-Lowest
returns-in-Lowest c =
    subst (λ (s : SplitOn). IsCut c.args.ks (split_condition s c.args.ks) (record { number = c.args.low.number; values = c.args.low.values; step = 1 })) (sym c.in-Lowest.is) (cut-lowest c.requires.0.some c.requires.2 c.requires.1)

pub returns-in-MostValues : goal.returns-in-MostValues
returns-in-MostValues c =
    subst (λ (s : SplitOn). IsCut c.args.ks (split_condition s c.args.ks) c.most_values.result) (sym c.in-MostValues.is) c.most_values.ensures
