-- Request 8: settings for how a network is grown.
use Rattle.std.specs.Prelude.{ℕ, ◌/◌, ◌%◌, Bool, true, false, not, List, eqb, leb, ltb}
use Rattle.rules.specs.declared.Gate.{Gate}
use Rattle.rules.specs.declared.Gate.TheVariants.{Min, Max}
use Rattle.rules.specs.declared.SplitOn.{SplitOn}
use Rattle.rules.specs.declared.SplitOn.TheVariants.{Lowest, MostValues}
use Rattle.rules.specs.declared.Settings.{Settings}
use Rattle.rules.specs.Cell.{lowest, most_values}

-- what exists without settings
abbrev pub usual : Settings
usual = record { tie = Max; splits = Lowest; weak = true }

-- step 4: whether max's number is less than min's, or equal and max wins ties
abbrev pub less_or_tie : Gate → ℕ → ℕ → Bool
less_or_tie Max a b = leb a b
less_or_tie Min a b = ltb a b

-- step 6: the condition that a split takes
abbrev pub split_condition : SplitOn → List ℕ → ℕ
split_condition Lowest ks = lowest ks
split_condition MostValues ks = most_values ks

-- For C, settings are a byte: bit 0, min wins ties; bit 1, a split takes the condition with most values; bit 2, no weak joins are tried. The
-- other bits are not looked at
abbrev pub tie_of : Bool → Gate
tie_of true = Min
tie_of false = Max

abbrev pub splits_of : Bool → SplitOn
splits_of true = MostValues
splits_of false = Lowest

abbrev pub settings_of : ℕ → Settings
settings_of b = record { tie = tie_of (eqb (b % 2) 1); splits = splits_of (eqb (b / 2 % 2) 1); weak = not (eqb (b / 4 % 2) 1) }
