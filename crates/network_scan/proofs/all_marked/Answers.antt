-- `network_scan::all_marked` meets its contract.
use mathlib.Core.Path.{◌≡◌, refl, ◌∙◌, ap}
use Prim.Native.Nat.{ℕ}
use mathlib.Core.Bool.{Bool, true, false, cond}
use lib.Dec.{eqb}
use borrow.Author.Rules.{rules}
use Rattle.std.specs.List.{sum}
use Rattle.std.proofs.Common.{map}
use Rattle.std.proofs.iter.runs.Made.{chains}
use Rattle.std.proofs.lemmas.List.Sums.{sum-map}
use Rattle.rules.specs.Bytes.{at}
use Rattle.network_scan.proofs.SumLaws.{sum_zero}
use Rattle.network_scan.proofs.all_marked.Goals as goal

lacks : (b : Bool) → eqb (cond b 0 1) 0 ≡ b
lacks true = refl
lacks false = refl

pub returns : goal.returns
returns c =
    let xs = c.args.marks.now in
    let missing : ℕ → ℕ = λ mark. cond (eqb mark 1) 0 1 in
    let e : c.sum-missing.result ≡ sum (map missing xs) = search (rules, chains) in
    ap (λ (s : ℕ). eqb s 0) (e ∙ sum-map missing xs) ∙ sum_zero missing xs 0 (λ k. eqb (at xs k) 1) (λ k h. lacks (eqb (at xs k) 1))
