-- `stage_drops::drop_condition` meets its contract.
use Prim.Native.Nat.{ℕ, ◌+◌, ◌-◌, ◌*◌, ◌/◌}
use mathlib.Core.Path.{◌≡◌, refl, sym, ◌∙◌, subst}
use mathlib.Core.Bool.{false}
use mathlib.Core.Logic.{⊎_elim, inl, inr}
use native.Mathlib.Omega.{arith}
use lib.ListN.{get_or}
use borrow.Author.Rules.{rules}
use Rattle.tables.specs.Part.{Laid}
use Rattle.tables.specs.Line.{line_extremes}
use Rattle.tables.proofs.OverLaws.{Counted, counted, counted_blocks}
use Rattle.tables.proofs.PackLaws.{packed_low, packed_aside}
use Rattle.stage_drops.proofs.DropLaws.{both_packed}
use Rattle.stage_drops.proofs.drop_condition.Goals.{Start}
use Rattle.stage_drops.proofs.drop_condition.Goals as goal

-- what is counted
counts : (c : Start) → let s = c.args in Counted s.ks s.i s.step (get_or s.ks s.i 0) (s.n / (s.step * get_or s.ks s.i 0))
counts c = let p = c.requires in counted c.args.ks c.args.i _ _ _ p.1.shaped.some (search rules) p.0.step_is refl p.1.own

pub overflow_mul-count : goal.overflow_mul-count
overflow_mul-count c = let few = c.requires.1.shaped.few in omega (arith, (counts (goal.at.overflow_mul-count c).Start).low)

pub nonzero_div-count : goal.nonzero_div-count
nonzero_div-count c = (counts (goal.at.nonzero_div-count c).Start).size

pub pack-requires : goal.pack-requires
pack-requires c =
    let p = c.requires.1 in
    let n = counts (goal.at.pack-requires c).Start in
    (counted_blocks _ _ n (let e = p.own in let r = p.room in omega arith), p.own ∙ sym n.all, inl refl)

pub pack-requires-2 : goal.pack-requires-2
pack-requires-2 c =
    let p = c.requires.1 in
    let n = counts (goal.at.pack-requires-2 c).Start in
    let e = p.own in
    let l = packed_low n in
    (counted_blocks _ _ n (let x = c.pack.ensures.len in let r = p.room in omega arith), p.own ∙ sym n.all, ⊎_elim (λ q. inl (omega arith)) (λ q. inr (omega arith)) (packed_aside n e))

pub returns : goal.returns
returns c =
    let s = c.args in
    let n = counts (goal.at.returns c).Start in
    let e = c.requires.1.own in
    let left = s.step * (s.n / (s.step * get_or s.ks s.i 0)) in
    let z : left + (s.n - left) ≡ s.n = let l = packed_low n in omega arith in
    both_packed c.requires.1 (search rules) n c.pack.ensures
    (subst (λ (a : ℕ). Laid c.pack.new.w left (line_extremes false c.pack.new.w a s.step (get_or s.ks s.i 0) (s.n / (s.step * get_or s.ks s.i 0))) left c.pack-2.new.w) z c.pack-2.ensures)
