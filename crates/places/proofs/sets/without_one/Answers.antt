-- `places::sets::without_one` meets its contract.
use mathlib.Core.Path.{◌≡◌}
use mathlib.Core.List.{List}
use Prim.Native.Nat.{ℕ}
use native.Mathlib.Omega.{arith}
use lib.ListN.{length}
use Rattle.laws.proofs.LowestLaws.{set-without}
use borrow.Author.Rules.{rules}
use Rattle.places.proofs.sets.without_one.Goals as goal

pub returns : goal.returns
returns c =
    let ks : List ℕ = c.args.ks in
    let e : length ks ≡ 8 = search rules in
    let h = c.requires in
    set-without ks c.args.i (omega arith)
