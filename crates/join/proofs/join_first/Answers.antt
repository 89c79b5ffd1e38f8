-- `join::join_first` meets its contract.
use mathlib.Core.List.{[], ◌∷◌}
use native.Mathlib.Omega.{arith}
use lib.ListN.{length}
use borrow.Author.Rules.{rules}
use Rattle.join.proofs.RowLaws.{stopped, offered}
use Rattle.join.proofs.OpenLaws.{first-ready}
use Rattle.laws.proofs.VerdictLaws.{handed_on}
use Rattle.join.proofs.CallLaws.{Call, opening, fits, stopped_eight}
use Rattle.join.proofs.PromiseLaws.{first_stopped, first_written}
use Rattle.join.proofs.join_first.Goals.{In_ok-judge}
use Rattle.join.proofs.join_first.Goals as goal

-- the call, once rows 4, 10, 5 and 7 let it pass
call : (c : In_ok-judge)
    → let a = c.args in
    Call a.shape a.lower.now a.upper.now a.s a.t (length a.out_lower.now ∷ length a.out_upper.now ∷ []) c.places-ks.result c.cell_count-n.result
call c = record { places = c.places-ks.ensures; count = c.cell_count-n.ensures; offered = offered c.judge.ensures _ _ (omega arith) c.in_ok-judge.was }

pub returns-in_err-judge : goal.returns-in_err-judge
returns-in_err-judge c =
    let a = c.args in
    first_stopped (stopped c.judge.ensures (length a.lower.now) (length a.upper.now ∷ length a.out_lower.now ∷ length a.out_upper.now ∷ []) (omega arith) c.in_err-judge.was a.gate _) (handed_on c.from_residual.ensures.1)

pub open-requires : goal.open-requires
open-requires c = opening (call (goal.at.open-requires c).In_ok-judge) (search rules)

pub returns-in_err-open : goal.returns-in_err-open
returns-in_err-open c =
    first_stopped (stopped_eight (call (goal.at.returns-in_err-open c).In_ok-judge) c.«open».ensures c.in_err-open.was _) (handed_on c.from_residual-in_err-open.ensures.1)

pub first_limits-requires : goal.first_limits-requires
first_limits-requires c = first-ready c.«open».ensures.joining

pub deliver-requires : goal.deliver-requires
deliver-requires c = let f = fits (call (goal.at.deliver-requires c).In_ok-judge) in search rules

pub returns : goal.returns
returns c =
    first_written (call (goal.at.returns c).In_ok-judge) c.«open».ensures c.in_ok-open.was c.first_limits.ensures c.deliver.ensures
