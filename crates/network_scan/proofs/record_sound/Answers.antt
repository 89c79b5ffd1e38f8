-- `network_scan::record_sound` meets its contract.
use Rattle.std.proofs.Common.{rules}
use mathlib.Core.Path.{sym, ◌∙◌}
use Rattle.rules.specs.declared.Gate.TheVariants.{Min, Max}
use Rattle.network_scan.proofs.SoundLaws.{gate_passed}
use Rattle.network_scan.proofs.record_sound.Goals as goal

pub returns-then-row_sound-3 : goal.returns-then-row_sound-3
returns-then-row_sound-3 c =
    let a = c.args in
    c.gate_sound.ensures
    ∙ sym (gate_passed a.ks a.m a.k a.r.now a.network.now Min (search rules) (sym c.row_sound-in-Ok-Gate-Min.ensures ∙ c.if-row_sound-3.true))

pub returns-then-row_sound-4 : goal.returns-then-row_sound-4
returns-then-row_sound-4 c =
    let a = c.args in
    c.gate_sound-then-row_sound-4.ensures
    ∙ sym (gate_passed a.ks a.m a.k a.r.now a.network.now Max (search rules) (sym c.row_sound-in-Ok-Gate-Max.ensures ∙ c.if-row_sound-4.true))
