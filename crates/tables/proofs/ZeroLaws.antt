-- Bytes that must be zero, one by one.
use Prim.Native.Nat.{ℕ, ◌+◌, ◌-◌, ◌≤◌, ◌<◌}
use mathlib.Core.Path.{◌≡◌, ◌∙◌, ap}
use mathlib.Core.Bool.{false}
use mathlib.Core.List.{List}
use native.Mathlib.Omega.{arith}
use lib.Dec.{eqb}
use lib.ListN.{length, take, drop, length-take, length-drop}
use lib.Seq.{get_or-take, get_or-drop}
use Rattle.rules.specs.Bytes.{at, all, zeros}
use Rattle.laws.proofs.TableLaws.{all_same, all_false}

-- the bytes from a up to b, lent alone
pub zeros-lent : (r : List ℕ) (a b : ℕ) → b ≤ length r → all (length (take (b - a) (drop a r))) (λ k. eqb (at (take (b - a) (drop a r)) k) 0) ≡ zeros r a b
zeros-lent r a b h =
    ap (λ (m : ℕ). all m (λ k. eqb (at (take (b - a) (drop a r)) k) 0)) size
    ∙ all_same (b - a) _ _ (λ k lt. ap (λ (x : ℕ). eqb x 0) (get_or-take (b - a) (drop a r) k 0 lt ∙ get_or-drop a r k 0))
  where
    size : length (take (b - a) (drop a r)) ≡ b - a
    size = simp (length-take, length-drop) (omega arith)

-- a byte that is not zero
pub zeros_stop : (r : List ℕ) (a b j : ℕ) → a ≤ j → j < b → eqb (at r j) 0 ≡ false → zeros r a b ≡ false
zeros_stop r a b j h l z =
    let e : a + (j - a) ≡ j = omega arith in
    all_false (b - a) (λ i. eqb (at r (a + i)) 0) (j - a) (omega arith) (ap (λ (i : ℕ). eqb (at r i) 0) e ∙ z)
