-- A test of every cell, as `all` of an iterator or a loop finds it.
use Prim.Native.Nat.{ℕ, zero, suc, ◌+◌, ◌≤◌, ◌<◌, max}
use mathlib.Core.Path.{◌≡◌, refl, ◌∙◌, ap, ap₂}
use mathlib.Core.Bool.{Bool, true}
use mathlib.Core.List.{List, [], ◌∷◌}
use native.Mathlib.Omega.{arith}
use lib.ListN.{length}
use Rattle.std.specs.List.{list_all, zip, fold}
use Rattle.std.proofs.lemmas.Slice.Zip.{length-zip, get_or-zip}
use Rattle.rules.specs.Bytes.{at, all, greatest}
use Rattle.laws.proofs.ChainLaws.{paired-all}
use Rattle.laws.proofs.TableLaws.{all_same}
use Rattle.tables.specs.Part.{part}
use Rattle.tables.proofs.LendLaws.{lent, lent_length, lent-part}

-- of two parts of a buffer
pub list_all-parts : (p : ℕ → ℕ → Bool) (v w : List ℕ) (a b n : ℕ) → a + n ≤ length v → b + n ≤ length w
    → list_all (λ q. p q.0 q.1) (zip (lent a n v) (lent b n w)) ≡ all n (λ k. p (at (part v a n) k) (at (part w b n) k))
list_all-parts p v w a b n h g =
    paired-all (λ q. p q.0 q.1) 0 n (lent a n v) (lent b n w) (lent_length a n v h) (lent_length b n w g)
    ∙ ap₂ (λ (x y : List ℕ). all n (λ k. p (at x k) (at y k))) (lent-part a n v) (lent-part b n w)

-- of three
pub list_all-three : (p : ℕ → ℕ → ℕ → Bool) (w : List ℕ) (a b c n : ℕ) → a + n ≤ length w → b + n ≤ length w → c + n ≤ length w
    → list_all (λ q. p q.0.0 q.0.1 q.1) (zip (zip (lent a n w) (lent b n w)) (lent c n w)) ≡ all n (λ k. p (at (part w a n) k) (at (part w b n) k) (at (part w c n) k))
list_all-three p w a b c n h g i =
    paired-all (λ q. p q.0.0 q.0.1 q.1) (0, 0) n (zip (lent a n w) (lent b n w)) (lent c n w) two (lent_length c n w i)
    ∙ all_same n _ (λ k. p (at (lent a n w) k) (at (lent b n w) k) (at (lent c n w) k))
    (λ k lt. ap (λ (q : ℕ × ℕ). p q.0 q.1 (at (lent c n w) k)) (get_or-zip (lent a n w) (lent b n w) k (0, 0) (omega (arith, la)) (omega (arith, lb))))
    ∙ ap₂ (λ (x y : List ℕ). all n (λ k. p (at x k) (at y k) (at (lent c n w) k))) (lent-part a n w) (lent-part b n w)
    ∙ ap (λ (x : List ℕ). all n (λ k. p (at (part w a n) k) (at (part w b n) k) (at x k))) (lent-part c n w)
  where
    la : length (lent a n w) ≡ n
    la = lent_length a n w h

    lb : length (lent b n w) ≡ n
    lb = lent_length b n w g

    two : length (zip (lent a n w) (lent b n w)) ≡ n
    two = length-zip (lent a n w) (lent b n w) ∙ omega (arith, la, lb)

-- the greatest of a list, from its first number on
pub fold-greatest : (m : ℕ) (xs : List ℕ) → fold max m xs ≡ max m (greatest xs)
fold-greatest m [] = omega arith
fold-greatest m (x ∷ xs) = fold-greatest (max m x) xs ∙ omega arith

-- a loop has passed every cell
pub all_passed : {c : ℕ} (n : ℕ) (p : ℕ → Bool) → c ≡ n → ((k : ℕ) → k < c → p k ≡ true) → all n p ≡ true
all_passed {c} n p e h = go n (λ k l. h k (omega arith))
  where
    go : (m : ℕ) → ((k : ℕ) → k < m → p k ≡ true) → all m p ≡ true
    go zero h = refl
    go (suc m) h = rw (go m (λ k l. h k (omega arith)), h m (omega arith))
