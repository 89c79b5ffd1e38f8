-- `network_scan::gate_sound` meets its contract.
use mathlib.Core.Path.{◌≡◌, sym, ◌∙◌, ap, ap₂}
use native.Mathlib.Omega.{arith}
use lib.Dec.{eqb}
use borrow.Author.Rules.{rules}
use Rattle.rules.specs.Bytes.{at, word}
use Rattle.rules.specs.Network.{combine, ceiling_at}
use Rattle.laws.proofs.TestLaws.{and_pass}
use Rattle.laws.proofs.CeilingLaws.{ceiling_read}
use Rattle.network_scan.proofs.SoundLaws.{gate-before}
use Rattle.network_scan.proofs.gate_sound.Goals as goal

pub returns-then-max-k : goal.returns-then-max-k
returns-then-max-k c =
    let a = c.args in
    let net = a.network.now in
    let left : c.from-left.result ≡ word a.r.now 4 = search rules in
    let right : c.from-right.result ≡ word a.r.now 6 = search rules in
    ap (eqb (at a.r.now 2))
    (c.combined.ensures
    ∙ ap₂ (combine a.by) (sym (ceiling_read net c.from-left.result) ∙ ap (ceiling_at net) left) (sym (ceiling_read net c.from-right.result) ∙ ap (ceiling_at net) right))
    ∙ sym (and_pass _ (gate-before a.k a.r.now (omega arith)))
