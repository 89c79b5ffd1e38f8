-- `rows::blocks::along` meets its contract.
use Prim.Native.Nat.{ℕ, ◌*◌, ◌/◌}
use mathlib.Core.Path.{◌≡◌, refl, ap, ◌∙◌, sym}
use native.Mathlib.Omega.{arith}
use borrow.Author.Rules.{rules}
use lib.ListN.{get_or}
use Rattle.laws.proofs.LoopLaws.{card_read}
use Rattle.tables.proofs.PartLaws.{filled_laid}
use Rattle.rows.proofs.GradesLaws.{reads_on, room-same}
use Rattle.rows.proofs.BlockLaws.{InBlocks, along_blocks, block-end, blocks_more, along_as}
use Rattle.rows.proofs.blocks.along.Goals.{After-step-step}
use Rattle.rows.proofs.blocks.along.Goals as goal

-- the blocks, as they are counted
counts : (c : After-step-step)
    → let s = c.args in InBlocks c.step-step.result (get_or s.ks s.i 0) (s.n / (c.step-step.result * get_or s.ks s.i 0)) s.n
counts c = along_blocks _ _ (search rules) c.requires.0 c.step-step.ensures refl

pub block-requires : goal.block-requires
block-requires c =
    let l = c.loop-b in
    let p = counts (goal.at.block-requires c).After-step-step in
    (p.some, reads_on _ _ (block-end p c.loop-b-test.true) (room-same l.w l.invariant.1.len c.requires.1))

pub loop-b-preserved : goal.loop-b-preserved
loop-b-preserved c = (search rules, blocks_more (counts (goal.at.loop-b-preserved c).After-step-step) c.loop-b-test.true c.requires.1 c.loop-b.invariant.1 c.block.ensures)

pub returns : goal.returns
returns c =
    let s = c.args in
    let p = counts (goal.at.returns c).After-step-step in
    let l = c.loop-b in
    let e : l.b ≡ s.n / (c.step-step.result * get_or s.ks s.i 0) = omega arith in
    along_as s.greatest _ s.w.now s.to s.n c.step-step.ensures (card_read s.ks s.i (search rules))
    (filled_laid _ s.n (ap (λ (b : ℕ). c.step-step.result * get_or s.ks s.i 0 * b) e ∙ sym p.all) l.invariant.1 (λ k h. refl))
