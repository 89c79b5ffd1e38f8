-- `compile::compile_with` meets its contract.
use lib.ListN.{length}
use Rattle.laws.proofs.VerdictLaws.{handed_on}
use Rattle.compile.proofs.RowLaws.{Passed, sound_passes, recorded_as, stops, writes}
use Rattle.compile.proofs.compile_with.Goals.{In_ok-judge}
use Rattle.compile.proofs.compile_with.Goals as goal

-- no row stops the call
sound : (c : In_ok-judge) → (let a = c.args in Passed a.shape a.lower.now a.upper.now (length a.work.now) (length a.network.now))
sound c = let a = c.args in sound_passes a.shape a.lower.now a.upper.now (length a.work.now) (length a.network.now) c.judge.ensures c.in_ok-judge.was

pub build-of-requires : goal.build-of-requires
build-of-requires c = (sound (goal.at.build-of-requires c).In_ok-judge).table

pub returns-in_err-judge : goal.returns-in_err-judge
returns-in_err-judge c =
    let a = c.args in
    stops a.how a.shape a.lower.now a.upper.now a.work.now a.network.now c.judge.ensures c.in_err-judge.was (handed_on c.from_residual.ensures.1)

pub returns : goal.returns
returns c =
    let a = c.args in
    writes a.how a.shape a.lower.now a.upper.now a.work.now a.network.now (sound (goal.at.returns c).In_ok-judge) (recorded_as c.to_byte-byte.ensures.1 c.build-of.ensures)
