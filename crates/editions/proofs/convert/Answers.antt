-- `editions::convert` meets its contract.
use Rattle.std.proofs.Common.{ℕ, ◌*◌, ◌/◌, ◌≤◌, List, ◌++◌, length, drop, ◌∙◌, ap, sym, subst, arith}
use lib.ListN.{length-append}
use Rattle.rules.specs.Bytes.{map_records}
use Rattle.rules.specs.Editions.{record_as_other}
use Rattle.editions.specs.Converting.{AllTurnable}
use Rattle.editions.proofs.ConvertLaws.{copied, whole, all_turnable, turned_file, convert_written}
use Rattle.editions.proofs.convert.Goals as goal

pub turn_records-requires : goal.turn_records-requires
turn_records-requires c =
    let a = c.args in
    let file = a.file.now in
    let rest = drop (length file) a.out.now in
    let q = sym c.in_ok-judge.ensures.answer in
    subst (λ (w : List ℕ). (16 * (length file / 16) ≤ length w) × AllTurnable a.edition w (length file / 16)) (sym (c.unload.ensures ∙ copied file rest))
    (omega (arith, length-append file rest, whole a.edition file _ q), all_turnable a.edition file _ q rest)

pub returns : goal.returns
returns c =
    let a = c.args in
    let file = a.file.now in
    let rest = drop (length file) a.out.now in
    let q = sym c.in_ok-judge.ensures.answer in
    convert_written a.edition file a.out.now (λ j. (c.type_inv.file j).fits) _ q (omega arith) _
    (c.turn_records.ensures
    ∙ ap (λ (w : List ℕ). map_records (record_as_other a.edition) w 0 (length file / 16) ++ drop (16 * (length file / 16)) w) (c.unload.ensures ∙ copied file rest)
    ∙ turned_file a.edition file _ q rest)
