-- Sums of faults: a sum is 0 exactly where each is.
use Prim.Native.Nat.{ℕ, zero, suc, ◌+◌, ◌≤◌, ◌<◌}
use mathlib.Core.Path.{◌≡◌, refl, sym, ◌∙◌, ap}
use mathlib.Core.Bool.{Bool, true, false, ◌&&◌}
use mathlib.Core.List.{List}
use native.Mathlib.Numerals.{add-one}
use native.Mathlib.Omega.{arith}
use borrow.Author.Tests.{eqb-true, eqb-false, eq-eqb, ne_eqb}
use lib.Dec.{eqb}
use lib.ListN.{length, take, get_or}
use Rattle.std.specs.List.{sum_by}
use Rattle.std.proofs.Common.{take_all}
use Rattle.std.proofs.lemmas.List.Sums.{sum_by_more}
use Rattle.rules.specs.Bytes.{all}

sum_of : (s x : ℕ) (a b : Bool) → eqb s 0 ≡ a → eqb x 0 ≡ b → eqb (s + x) 0 ≡ (a && b)
sum_of s x true true h g =
    let p = eqb-true s 0 h in
    let q = eqb-true x 0 g in
    eq-eqb (s + x) 0 (omega arith)
sum_of s x true false h g = ne_eqb (s + x) 0 (λ e. eqb-false x 0 g (omega arith))
sum_of s x false true h g = ne_eqb (s + x) 0 (λ e. eqb-false s 0 h (omega arith))
sum_of s x false false h g = ne_eqb (s + x) 0 (λ e. eqb-false s 0 h (omega arith))

module _ {X : Type 0} (fault : X → ℕ) (xs : List X) (d : X) (p : ℕ → Bool) (each : (k : ℕ) → k < length xs → eqb (fault (get_or xs k d)) 0 ≡ p k) where
  sum_front : (n : ℕ) → n ≤ length xs → eqb (sum_by fault (take n xs)) 0 ≡ all n p
  sum_front zero h = refl
  sum_front (suc n) h =
      ap (λ (k : ℕ). eqb (sum_by fault (take k xs)) 0) (sym (add-one n))
      ∙ ap (λ (s : ℕ). eqb s 0) (sum_by_more fault xs n d h)
      ∙ sum_of (sum_by fault (take n xs)) (fault (get_or xs n d)) (all n p) (p n) (sum_front n (omega arith)) (each n h)

  pub sum_zero : eqb (sum_by fault xs) 0 ≡ all (length xs) p
  sum_zero = ap (λ (l : List X). eqb (sum_by fault l) 0) (sym (take_all (length xs) xs (omega arith))) ∙ sum_front (length xs) (omega arith)
