-- `network_scan::literal_sound` meets its contract.
use Prim.Native.Nat.{◌<◌}
use mathlib.Core.Path.{◌≡◌, sym, ◌∙◌, ap}
use lib.Dec.{eqb}
use lib.ListN.{length}
use borrow.Author.Rules.{rules}
use Rattle.rules.specs.Bytes.{at}
use Rattle.laws.proofs.TestLaws.{and_left, and_pass}
use Rattle.network_scan.proofs.SoundLaws.{literal_by}
use Rattle.network_scan.proofs.literal_sound.Goals as goal

pub returns-then-literal_formed : goal.returns-then-literal_formed
returns-then-literal_formed c =
    let a = c.args in
    let there : at a.r.now 1 < length a.ks = search rules in
    let values : c.in-Some.field-0.now ≡ at a.ks (at a.r.now 1) = search rules in
    ap (eqb (at a.r.now 2)) c.greatest.ensures
    ∙ sym (literal_by a.ks a.m a.r.now c.in-Some.field-0.now (search rules) there values ∙ and_pass _ (sym c.literal_formed.ensures ∙ c.if-literal_formed.true))

pub returns-else-literal_formed : goal.returns-else-literal_formed
returns-else-literal_formed c =
    let a = c.args in
    let there : at a.r.now 1 < length a.ks = search rules in
    let values : c.in-Some.field-0.now ≡ at a.ks (at a.r.now 1) = search rules in
    c.if-literal_formed.false
    ∙ sym (literal_by a.ks a.m a.r.now c.in-Some.field-0.now (search rules) there values ∙ and_left _ (sym c.literal_formed.ensures ∙ c.if-literal_formed.false))
