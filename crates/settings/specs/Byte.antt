-- Settings as the byte with no other bit.
use Rattle.std.specs.Prelude.{ℕ, ◌+◌, Bool, true, false}
use Rattle.rules.specs.declared.Gate.{Gate}
use Rattle.rules.specs.declared.Gate.TheVariants.{Min, Max}
use Rattle.rules.specs.declared.SplitOn.{SplitOn}
use Rattle.rules.specs.declared.SplitOn.TheVariants.{Lowest, MostValues}
use Rattle.rules.specs.declared.Settings.{Settings}

abbrev pub tie_bit : Gate → ℕ
tie_bit Min = 1
tie_bit Max = 0

abbrev pub splits_bit : SplitOn → ℕ
splits_bit MostValues = 2
splits_bit Lowest = 0

abbrev pub weak_bit : Bool → ℕ
weak_bit true = 0
weak_bit false = 4

abbrev pub byte_of : Settings → ℕ
byte_of how = tie_bit how.tie + splits_bit how.splits + weak_bit how.weak
