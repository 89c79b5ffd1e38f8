-- 01, Places where a call stops, and the requests after it: the number of each refusal.
use Rattle.std.specs.Prelude.{ℕ}
use Rattle.rules.specs.declared.Refusal.{Refusal}
use Rattle.rules.specs.declared.Refusal.TheVariants.{FileLength, RecordBytes, RecordOrder, ShapeRange, GradeLimits, CellValues, Sets, NoJoin, FirstBlock, ShortBuffer, Network, CellNumber, GradeSet}

abbrev pub refusal_number : Refusal → ℕ
refusal_number FileLength = 1
refusal_number RecordBytes = 2
refusal_number RecordOrder = 3
refusal_number ShapeRange = 4
refusal_number GradeLimits = 5
refusal_number CellValues = 6
refusal_number Sets = 7
refusal_number NoJoin = 8
refusal_number FirstBlock = 9
refusal_number ShortBuffer = 10
refusal_number Network = 11
refusal_number CellNumber = 12
refusal_number GradeSet = 13
