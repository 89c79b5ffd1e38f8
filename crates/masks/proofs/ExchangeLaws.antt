-- Min by the exchange: its masks, from the limits as they are.
use Prim.Native.Nat.{ℕ, ◌-◌, ◌≤◌, ◌<◌}
use mathlib.Core.Path.{◌≡◌, refl, sym, ◌∙◌, ap₂}
use mathlib.Core.Bool.{Bool, true, false}
use mathlib.Core.List.{List}
use native.Mathlib.Nat.{le_trans}
use native.Mathlib.Omega.{arith}
use lib.Dec.{ltb}
use borrow.Author.Tests.{ltb-true, ltb-false, lt-ltb, le-ltb}
use Rattle.rules.specs.Bytes.{at}
use Rattle.rules.specs.Cell.{cells, singleton, greatest_over}
use Rattle.rules.specs.Limits.{Limits}
use Rattle.rules.specs.declared.Gate.TheVariants.{Min}
use Rattle.laws.proofs.GateLaws.{Good, complement-at, least-complement}
use Rattle.laws.proofs.OverLaws.{max-bound, over-bound}
use Rattle.masks.specs.Masks.{above_least, below_greatest, Bits, Masked}

-- of what two grades lack to n, the other is the lesser
turned : (n g u : ℕ) → g ≤ n → u ≤ n → ltb (n - g) (n - u) ≡ ltb u g
turned n g u hg hu = go (ltb u g) refl
  where
    go : (b : Bool) → ltb u g ≡ b → ltb (n - g) (n - u) ≡ b
    go true e = let l = ltb-true u g e in lt-ltb (n - g) (n - u) (omega arith)
    go false e = let l = ltb-false u g e in le-ltb (n - g) (n - u) (omega arith)

-- the masks for min, from bits that say where the upper grade is below the greatest lower grade
pub masked_min : (ks : List ℕ) (m : ℕ) (l : Limits) (t : List ℕ) → Good ks m l → Bits ks (below_greatest ks l.lower l.upper) t
    → Masked Min ks m l t
unfolding above_least below_greatest
masked_min ks m l t g h =
    record {
      bit = λ c i hc hi.
          let low : (d : ℕ) → d < cells ks → at l.lower d ≤ m - 1 = λ d hd. le_trans (g.room d hd) (g.top d hd) in
          let most : at (greatest_over ks (singleton i) l.lower) c ≤ m - 1 =
          over-bound max-bound ks (singleton i) l.lower c (m - 1) hc (λ d hd a. low d hd) in
          h.bit c i hc hi
          ∙ sym
          (ap₂ ltb (least-complement ks m (singleton i) l.lower c hc) (complement-at ks m l.upper c hc)
          ∙ turned (m - 1) (at (greatest_over ks (singleton i) l.lower) c) (at l.upper c) most (g.top c hc));
    }
