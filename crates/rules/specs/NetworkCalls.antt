-- 01, Networks: the calls that evaluate and check a network, by the rows of "Places where a call stops" in their order.
use Rattle.std.specs.Prelude.{ℕ, zero, suc, ◌/◌, Bool, cond, ◌&&◌, List, [], ◌∷◌, leb, ltb, length}
use Rattle.rules.specs.declared.Refusal.TheVariants.{ShapeRange, GradeLimits, ShortBuffer, Network, CellNumber}
use Rattle.rules.specs.Bytes.{at}
use Rattle.rules.specs.Cell.{cells}
use Rattle.rules.specs.Shape.{places, shape_sound}
use Rattle.rules.specs.Limits.{Limits, limits_sound}
use Rattle.rules.specs.Verdict.{Verdict, accepted, unless, roomy}
use Rattle.rules.specs.Network.{network_sound, evaluate}

-- grade q is within the limits of cell c
abbrev pub grade_within : Limits → ℕ → ℕ → Bool
grade_within l c q = leb (at l.lower c) q && leb q (at l.upper c)

-- what a check finds: every cell within, or the first cell outside with its grade there
pub data CheckResult : Type 0 where
  within : CheckResult
  outside : ℕ → ℕ → CheckResult

-- of n cells from cell c on
abbrev pub check_from : List ℕ → Limits → List ℕ → ℕ → ℕ → CheckResult
check_from ks l net c zero = within
check_from ks l net c (suc n) =
    let q = evaluate ks net c in
    let later = check_from ks l net (suc c) n in
    cond (grade_within l c q) later (outside c q)

-- a shape's bytes, the network, and the length of the work buffer
module _ (n : ℕ) (cards : List ℕ) (m : ℕ) (net : List ℕ) (work : ℕ) where
  -- the grade at a cell
  abbrev pub evaluate_call : ℕ → Verdict ℕ
  evaluate_call cell =
      unless (shape_sound n cards m) ShapeRange
      (unless (leb (length net / 16) work) ShortBuffer
      (unless (network_sound (places cards) m net) Network
      (unless (ltb cell (cells (places cards))) CellNumber
      (accepted (evaluate (places cards) net cell)))))

  -- the check against the limits l, in buffers of the lengths given
  abbrev pub check_call : Limits → ℕ → ℕ → Verdict CheckResult
  check_call l lower upper =
      unless (shape_sound n cards m) ShapeRange
      (unless (roomy (cells (places cards)) (lower ∷ upper ∷ []) && leb (length net / 16) work) ShortBuffer
      (unless (limits_sound (places cards) m l) GradeLimits
      (unless (network_sound (places cards) m net) Network
      (accepted (check_from (places cards) l net 0 (cells (places cards)))))))
