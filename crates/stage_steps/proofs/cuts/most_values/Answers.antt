-- `stage_steps::cuts::most_values` meets its contract.
use Prim.Native.Nat.{ℕ, ◌+◌, ◌*◌}
use mathlib.Core.Path.{◌≡◌, subst}
use native.Mathlib.Omega.{arith}
use lib.ListN.{length}
use borrow.Author.Rules.{rules}
use Rattle.stage_steps.proofs.CutLaws.{Sought, Seeking, sought_more, sought_low, seek_all}
use Rattle.stage_steps.proofs.cuts.most_values.Goals.{After-better-found}
use Rattle.stage_steps.proofs.cuts.most_values.Goals as goal

-- one place more
more : (c : After-better-found) → (eight : length c.args.ks ≡ 8) → Sought c.args.ks eight (c.loop-number.number + 1) c.better-found.result (c.loop-number.step * c.from-values.result)
more c eight =
    sought_more c.args.ks eight c.requires.some (omega arith) (c.loop-number.invariant eight) c.from-values.ensures c.better-found.ensures

pub overflow_mul-step : goal.overflow_mul-step
overflow_mul-step c =
    let eight : length c.args.ks ≡ 8 = search rules in
    let few = c.requires.few in
    omega (arith, sought_low c.args.ks eight c.requires.some (omega arith) (more (goal.at.overflow_mul-step c).After-better-found eight))

pub loop-number-preserved : goal.loop-number-preserved
loop-number-preserved c = λ eight. more (goal.at.loop-number-preserved c).After-better-found eight

pub returns : goal.returns
returns c =
    let eight : length c.args.ks ≡ 8 = search rules in
    let all : c.loop-number.number ≡ 8 = omega arith in
    let s = c.loop-number.invariant eight in
    seek_all c.args.ks eight c.requires.some (subst (λ (i : ℕ). Seeking c.args.ks i c.loop-number.found c.loop-number.step) all (s.some (omega arith)))
