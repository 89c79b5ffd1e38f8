-- `join::join_second` meets its contract.
use mathlib.Core.List.{[], ◌∷◌}
use mathlib.Core.Path.{◌∙◌}
use native.Mathlib.Omega.{arith}
use lib.ListN.{length}
use borrow.Author.Rules.{rules}
use Rattle.join.proofs.RowLaws.{stopped, offered}
use Rattle.join.proofs.OpenLaws.{given}
use Rattle.laws.proofs.VerdictLaws.{handed_on}
use Rattle.join.proofs.CallLaws.{Call, opening, fits, passed_eight, stopped_eight, stopped_nine}
use Rattle.join.proofs.PromiseLaws.{second_stopped, second_written}
use Rattle.join.proofs.join_second.Goals.{In_ok-judge}
use Rattle.join.proofs.join_second.Goals as goal

-- the call, once rows 4, 10, 5 and 7 let it pass
call : (c : In_ok-judge)
    → let a = c.args in
    Call a.shape a.lower.now a.upper.now a.s a.t (length a.g.now ∷ length a.out_lower.now ∷ length a.out_upper.now ∷ []) c.places-ks.result c.cell_count-n.result
call c = record { places = c.places-ks.ensures; count = c.cell_count-n.ensures; offered = offered c.judge.ensures _ _ (omega arith) c.in_ok-judge.was }

pub returns-in_err-judge : goal.returns-in_err-judge
returns-in_err-judge c =
    let a = c.args in
    second_stopped a.g.now
    (stopped c.judge.ensures (length a.lower.now) (length a.upper.now ∷ length a.g.now ∷ length a.out_lower.now ∷ length a.out_upper.now ∷ []) (omega arith) c.in_err-judge.was a.gate _)
    (handed_on c.from_residual.ensures.1)

pub open-requires : goal.open-requires
open-requires c = opening (call (goal.at.open-requires c).In_ok-judge) (search rules)

pub returns-in_err-open : goal.returns-in_err-open
returns-in_err-open c =
    second_stopped c.args.g.now (stopped_eight (call (goal.at.returns-in_err-open c).In_ok-judge) c.«open».ensures c.in_err-open.was _) (handed_on c.from_residual-in_err-open.ensures.1)

pub second_given-requires : goal.second_given-requires
second_given-requires c = let f = fits (call (goal.at.second_given-requires c).In_ok-judge) in given c.«open».ensures c.in_ok-open.was (search rules)

pub returns-in_err-second_given : goal.returns-in_err-second_given
returns-in_err-second_given c =
    let k = call (goal.at.returns-in_err-second_given c).In_ok-judge in
    second_stopped c.args.g.now (passed_eight k c.«open».ensures c.in_ok-open.was _ ∙ stopped_nine k c.«open».ensures c.second_given.ensures c.in_err-second_given.was)
    (handed_on c.from_residual-in_err-second_given.ensures.1)

pub deliver-requires : goal.deliver-requires
deliver-requires c = let f = fits (call (goal.at.deliver-requires c).In_ok-judge) in search rules

pub returns : goal.returns
returns c =
    second_written (call (goal.at.returns c).In_ok-judge) c.«open».ensures c.in_ok-open.was c.second_given.ensures c.in_ok-second_given.was c.deliver.ensures
