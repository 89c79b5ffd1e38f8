-- `places::sets::without` meets its contract.
use mathlib.Core.Path.{sym, ◌∙◌}
use native.Mathlib.Omega.{arith}
use lib.Seq.{set-get_or}
use Rattle.places.proofs.PlaceLaws.{taken_skip, taken_more, taken-all}
use Rattle.places.proofs.sets.without.Goals.{then-has_member, else-has_member}
use Rattle.places.proofs.sets.without.Goals as goal

pub loop-i-preserved : goal.loop-i-preserved
loop-i-preserved c =
    elim c.if-has_member.branch [
      | then-has_member w ↦ rw w.card-items-is (taken_more c.loop-i.invariant (omega arith) (sym c.has_member.ensures ∙ w.if-has_member.true))
      | else-has_member w ↦ rw (w.card-items-is, set-get_or) (taken_skip c.loop-i.invariant (sym c.has_member.ensures ∙ w.if-has_member.false))
    ]

pub returns : goal.returns
returns c = taken-all c.loop-i.invariant (omega arith)
