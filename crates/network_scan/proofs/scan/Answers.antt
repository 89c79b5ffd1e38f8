-- `network_scan::scan` meets its contract.
use mathlib.Core.Path.{◌≡◌, sym, subst, ap, ◌∙◌}
use Prim.Native.Nat.{ℕ, ◌≤◌, ◌<◌}
use native.Mathlib.Omega.{arith}
use borrow.Author.Rules.{rules}
use lib.ListN.{length}
use mathlib.Core.Bool.{Bool, ◌&&◌}
use mathlib.Core.List.{List}
use Rattle.rules.specs.Bytes.{all}
use Rattle.rules.specs.Network.{record_sound, record_of, record_ceiling, record_formed, ceiling_at}
use Rattle.laws.proofs.RecordLaws.{record_read}
use Rattle.laws.proofs.TestLaws.{and_pass}
use Rattle.network_scan.specs.Kinds.{ceiling_is}
use Rattle.network_scan.proofs.MarkLaws.{Marked, marked_start, marked_good, marked-faulty, marked_all}
use Rattle.network_scan.proofs.scan.Goals.{then-record_sound, else-record_sound}
use Rattle.network_scan.proofs.scan.Goals as goal

pub loop-k-init : goal.loop-k-init
loop-k-init c = marked_start _

pub loop-k-preserved : goal.loop-k-preserved
loop-k-preserved c =
    let a = c.args in
    let l = c.loop-k in
    let net : List ℕ = a.network.now in
    let good : ℕ → Bool = record_sound a.ks a.m net in
    let read = record_read net l.k c.as_chunks.ensures.front (omega arith) in
    let few : l.k < 4096 = search rules in
    let sound : c.record_sound.result ≡ good l.k =
    c.record_sound.ensures ∙ ap (λ (r : List ℕ). record_formed a.ks a.m l.k r && ceiling_is (record_ceiling (ceiling_at net) (record_of a.ks r)) r) read in
    elim c.if-record_sound.branch [
      | then-record_sound w ↦ rw w.marks-is (marked_good good l.marks l.k l.invariant few (sym sound ∙ w.if-record_sound.true))
      | else-record_sound w ↦ rw w.marks-is (marked-faulty good l.marks l.k l.invariant few (sym sound ∙ w.if-record_sound.false))
    ]

pub returns : goal.returns
returns c =
    let a = c.args in
    let l = c.loop-k in
    let good : ℕ → Bool = record_sound a.ks a.m a.network.now in
    let n : ℕ = length c.as_chunks.result.0.now in
    let few : n ≤ 4096 = search rules in
    let e : l.k ≡ n = omega arith in
    c.all_marked.ensures
    ∙ marked_all good l.marks n (subst (Marked good l.marks) e l.invariant) few
    ∙ ap (λ (i : ℕ). all i good) c.as_chunks.ensures.front_len
    ∙ sym (and_pass _ (sym c.length_sound.ensures ∙ c.if-not-length_sound.false))
