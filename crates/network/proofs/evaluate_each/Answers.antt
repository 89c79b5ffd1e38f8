-- `network::evaluate_each` meets its contract.
use Prim.Native.Nat.{◌/◌}
use mathlib.Core.Bool.{Bool, ◌&&◌}
use mathlib.Core.Path.{◌≡◌, sym, ap, ◌∙◌}
use borrow.Author.Tests.{le-leb, lt-leb}
use lib.Dec.{leb}
use lib.ListN.{length}
use Rattle.laws.proofs.VerdictLaws.{handed_on}
use Rattle.network.proofs.CallLaws.{judged-stops, judged-goes_on, judged-passed, both_fit}
use Rattle.network.proofs.EachLaws.{each-stops, each-answers}
use Rattle.network.proofs.evaluate_each.Goals.{After-judge, then-network-work, else-network-work}
use Rattle.network.proofs.evaluate_each.Goals as goal

-- whether both buffers have room
room-is : (c : After-judge) → c.if-network-work.room ≡ (leb (length c.args.network.now / 16) (length c.args.work.now) && leb (length c.args.cells.now) (length c.args.grades.now))
room-is c =
    let grades_room : Bool = leb (length c.args.cells.now) (length c.args.grades.now) in
    elim c.if-network-work.branch [
      | then-network-work w ↦ w.room-is ∙ sym (ap (λ (b : Bool). b && grades_room) (le-leb _ _ w.if-network-work.true))
      | else-network-work w ↦ let no = lt-leb _ _ w.if-network-work.false in w.room-is ∙ no ∙ sym (ap (λ (b : Bool). b && grades_room) no)
    ]

pub returns-in_err-judge : goal.returns-in_err-judge
returns-in_err-judge c =
    let a = c.args in
    rw (handed_on c.from_residual.ensures.1)
    (each-stops a.shape a.network.now a.cells.now a.grades.now a.work.now
    (judged-stops a.shape a.network.now _ _ (rw (room-is (goal.at.returns-in_err-judge c).After-judge) at c.in_err-judge.ensures)))

pub grade_each-requires : goal.grade_each-requires
grade_each-requires c =
    let a = c.args in
    let passed = judged-passed a.shape a.network.now c.if-network-work.room c.in_ok-judge.ensures in
    let fit = both_fit (sym (room-is (goal.at.grade_each-requires c).After-judge) ∙ passed.1) in
    record { ready = record { shape-sound = passed.0; network-sound = passed.2; room = fit.0 }; room = fit.1 }

pub returns : goal.returns
returns c =
    let a = c.args in
    each-answers a.shape a.network.now a.cells.now a.grades.now a.work.now
    (judged-goes_on a.shape a.network.now _ _ (rw (room-is (goal.at.returns c).After-judge) at c.in_ok-judge.ensures)) c.grade_each.ensures
