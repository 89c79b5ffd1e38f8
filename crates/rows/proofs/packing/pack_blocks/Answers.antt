-- `rows::packing::pack_blocks` meets its contract.
use Prim.Native.Nat.{ℕ, ◌+◌, ◌*◌, ◌≤◌}
use mathlib.Core.Path.{◌≡◌, ap}
use native.Mathlib.Omega.{arith}
use borrow.Author.Rules.{rules}
use Rattle.tables.specs.Line.{Block}
use Rattle.tables.proofs.PartLaws.{filled_all}
use Rattle.tables.proofs.LineLaws.{block_in}
use Rattle.tables.proofs.PackLaws.{behind, aside, packed_more}
use Rattle.rows.proofs.packing.pack_blocks.Goals.{In-loop-b}
use Rattle.rows.proofs.packing.pack_blocks.Goals as goal

-- the block that the loop is at
here : (c : In-loop-b)
    → let s = c.args in let l = c.loop-b in Block l.w (s.a + s.step * s.card * l.b) s.step s.card
here c =
    let l = c.loop-b in
    block_in l.w l.b c.requires.0 l.invariant.1.len c.loop-b-test.true

-- what is written lies before it
low : (c : In-loop-b)
    → let s = c.args in let l = c.loop-b in s.to + s.step * l.b ≤ s.a + s.step * s.card * l.b
low c = behind c.requires.0 c.requires.1 c.loop-b.b

pub pack_block-requires : goal.pack_block-requires
pack_block-requires c = (here (goal.at.pack_block-requires c).In-loop-b, low (goal.at.pack_block-requires c).In-loop-b, aside c.requires.0 c.requires.1 c.requires.2 c.loop-b.b)

pub loop-b-preserved : goal.loop-b-preserved
loop-b-preserved c =
    (search rules, packed_more c.requires.0 c.requires.1 c.args.greatest c.loop-b-test.true c.loop-b.invariant.1 c.pack_block.ensures)

pub returns : goal.returns
returns c =
    let s = c.args in
    let e : c.loop-b.b ≡ s.count = omega arith in
    filled_all _ (ap (λ (b : ℕ). s.step * b) e) c.loop-b.invariant.1
