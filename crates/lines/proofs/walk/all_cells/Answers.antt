-- `lines::walk::all_cells` meets its contract.
use Prim.Native.Nat.{◌<◌}
use native.Mathlib.Omega.{arith}
use borrow.Author.Rules.{of_calls}
use Rattle.lines.proofs.walk.all_cells.Goals as goal

pub test-requires : goal.test-requires
test-requires g c =
    let i = c.loop-c.invariant in
    let h : c.loop-c.c < c.args.n = omega arith in
    search (of_calls, c.requires.takes _ _ h i.line)
