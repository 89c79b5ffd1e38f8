-- Request 3: the grades of a network at a list of cells, in one call.
use Rattle.std.specs.Prelude.{ℕ, ◌/◌, ◌&&◌, List, map, leb, ltb, length}
use Rattle.rules.specs.declared.Refusal.TheVariants.{ShapeRange, ShortBuffer, Network, CellNumber}
use Rattle.rules.specs.Bytes.{pick}
use Rattle.rules.specs.Cell.{cells}
use Rattle.rules.specs.Shape.{places, shape_sound}
use Rattle.rules.specs.Verdict.{Verdict, accepted, unless}
use Rattle.rules.specs.Network.{network_sound, evaluate}

-- the byte of a number that is no cell's; every grade is below it
abbrev pub no_cell_byte : ℕ
no_cell_byte = 255

-- the byte for one number of the list: the network's grade at that cell, or 255 where there is no such cell
abbrev pub visit_byte : List ℕ → List ℕ → ℕ → ℕ
visit_byte ks net cell = pick (ltb cell (cells ks)) (evaluate ks net cell) no_cell_byte

-- what a byte says of its number, as a single evaluation would: 255 that there is no such cell, any other the grade
abbrev pub byte_verdict : ℕ → Verdict ℕ
byte_verdict byte = unless (ltb byte no_cell_byte) CellNumber (accepted byte)

-- a shape's bytes, the network, the length of the work buffer, the list of cell numbers, and the length of the buffer for their bytes: the
-- rows of a single evaluation but its last, row 10 for that buffer too, then a byte for each number
abbrev pub evaluate_each_call : ℕ → List ℕ → ℕ → List ℕ → ℕ → List ℕ → ℕ → Verdict (List ℕ)
evaluate_each_call n cards m net work visits grades =
    unless (shape_sound n cards m) ShapeRange
    (unless (leb (length net / 16) work && leb (length visits) grades) ShortBuffer
    (unless (network_sound (places cards) m net) Network
    (accepted (map (visit_byte (places cards) net) visits))))
