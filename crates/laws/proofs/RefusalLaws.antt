-- The numbers of refusals.
use Prim.Native.Nat.{◌≤◌}
use mathlib.Core.Path.{◌≡◌, refl}
use native.Mathlib.Omega.{arith}
use Rattle.rules.specs.declared.Refusal.{Refusal}
use Rattle.rules.specs.declared.Refusal.TheVariants.{FileLength, RecordBytes, RecordOrder, ShapeRange, GradeLimits, CellValues, Sets, NoJoin, FirstBlock, ShortBuffer, Network, CellNumber, GradeSet}
use Rattle.rules.specs.Refusal.{refusal_number}

-- all from 1 to 13
pub small : (r : Refusal) → (1 ≤ refusal_number r) × (refusal_number r ≤ 13)
small FileLength = (omega arith, omega arith)
small RecordBytes = (omega arith, omega arith)
small RecordOrder = (omega arith, omega arith)
small ShapeRange = (omega arith, omega arith)
small GradeLimits = (omega arith, omega arith)
small CellValues = (omega arith, omega arith)
small Sets = (omega arith, omega arith)
small NoJoin = (omega arith, omega arith)
small FirstBlock = (omega arith, omega arith)
small ShortBuffer = (omega arith, omega arith)
small Network = (omega arith, omega arith)
small CellNumber = (omega arith, omega arith)
small GradeSet = (omega arith, omega arith)

-- 8 is one of them alone
pub only_no_join : (r : Refusal) → refusal_number r ≡ 8 → r ≡ NoJoin
only_no_join FileLength e = absurd (omega arith)
only_no_join RecordBytes e = absurd (omega arith)
only_no_join RecordOrder e = absurd (omega arith)
only_no_join ShapeRange e = absurd (omega arith)
only_no_join GradeLimits e = absurd (omega arith)
only_no_join CellValues e = absurd (omega arith)
only_no_join Sets e = absurd (omega arith)
only_no_join NoJoin e = refl
only_no_join FirstBlock e = absurd (omega arith)
only_no_join ShortBuffer e = absurd (omega arith)
only_no_join Network e = absurd (omega arith)
only_no_join CellNumber e = absurd (omega arith)
only_no_join GradeSet e = absurd (omega arith)
