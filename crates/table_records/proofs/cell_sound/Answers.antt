-- `table_records::cell_sound` meets its contract.
use Rattle.std.proofs.Common.{◌≡◌, ◌∙◌, ap, arith}
use Rattle.rules.specs.Bytes.{word}
use Rattle.rules.specs.GradeSet.{set_sound}
use Rattle.table_records.proofs.cell_sound.Goals as goal

pub returns-in-Spreadsheet : goal.returns-in-Spreadsheet
returns-in-Spreadsheet c =
    let set : c.from_le_bytes.result ≡ word c.args.r.now 2 = omega (arith, c.from_le_bytes.ensures) in
    rw c.in-Spreadsheet.is (c.is_sound.ensures ∙ ap (set_sound c.args.m) set)
