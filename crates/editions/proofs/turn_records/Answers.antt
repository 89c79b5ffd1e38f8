-- `editions::turn_records` meets its contract.
use Prim.Native.Nat.{ℕ, ◌*◌, ◌≤◌}
use mathlib.Core.Path.{◌≡◌, sym, ◌∙◌, ap, subst}
use mathlib.Core.List.{List}
use native.Mathlib.Omega.{arith}
use lib.ListN.{length}
use Rattle.rules.specs.Bytes.{at}
use Rattle.rules.specs.TableFile.{cell_kind}
use Rattle.rules.specs.Editions.{record_as_other}
use Rattle.laws.proofs.RecordLaws.{part_record, part_length}
use Rattle.editions.specs.Converting.{Turnable}
use Rattle.editions.proofs.ConvertLaws.{next_record, turned-next}
use Rattle.editions.proofs.turn_records.Goals as goal

pub turn_record-requires : goal.turn_record-requires
turn_record-requires c =
    let l = c.loop-k in
    let is = part_record l.out l.k ∙ next_record c.args.edition c.args.out.now l.k l.out l.invariant (omega (arith, c.requires.0)) in (
      part_length l.out l.k (omega (arith, l.auto.out, c.loop-k-test.true, c.requires.0)),
      subst (λ (r : List ℕ). at r 0 ≡ cell_kind c.args.edition → Turnable c.args.edition r) (sym is) (c.requires.1 l.k c.loop-k-test.true),
    )

pub loop-k-preserved : goal.loop-k-preserved
loop-k-preserved c =
    let l = c.loop-k in
    let e = c.args.edition in
    let w = c.args.out.now in
    let room : 16 * l.k ≤ length w = omega (arith, c.requires.0) in
    turned-next e w l.k l.out l.invariant room _ (c.turn_record.ensures ∙ ap (record_as_other e) (part_record l.out l.k ∙ next_record e w l.k l.out l.invariant room))
