-- What a chain of an iterator says of a list, as the rules say it: by places.
use Prim.Native.Nat.{ℕ, zero, suc, ◌+◌, min}
use mathlib.Core.Path.{◌≡◌, refl, sym, ap, ap₂, ◌∙◌}
use mathlib.Core.Bool.{Bool, ◌&&◌}
use mathlib.Core.List.{List, [], ◌∷◌}
use native.Mathlib.Omega.{arith}
use lib.ListN.{length, get_or}
use Rattle.std.specs.List.{list_all, enumerate_from, zip}
use Rattle.std.proofs.Math.Bool.{and_assoc}
use Rattle.std.proofs.lemmas.Slice.Zip.{length-zip, get_or-zip}
use Rattle.rules.specs.Bytes.{at, all}
use Rattle.laws.proofs.TestLaws.{and_true}
use Rattle.laws.proofs.TableLaws.{all_same}

-- a test of every place, the first before the others
pub all-front : (n : ℕ) (p : ℕ → Bool) → all (suc n) p ≡ (p 0 && all n (λ i. p (suc i)))
all-front zero p = and_true (p 0)
all-front (suc n) p = ap (λ b. b && p (suc n)) (all-front n p) ∙ and_assoc (p 0) (all n (λ i. p (suc i))) (p (suc n))

-- each element
pub elements-all : {A : Type 0} (q : A → Bool) (d : A) (xs : List A) → list_all q xs ≡ all (length xs) (λ i. q (get_or xs i d))
elements-all q d [] = refl
elements-all q d (x ∷ xs) = ap (λ b. q x && b) (elements-all q d xs) ∙ sym (all-front (length xs) (λ i. q (get_or (x ∷ xs) i d)))

-- each element with its number
pub numbered-all : (q : ℕ → ℕ → Bool) (k : ℕ) (xs : List ℕ) → list_all (λ (ix : ℕ × ℕ). q ix.0 ix.1) (enumerate_from k xs) ≡ all (length xs) (λ i. q (k + i) (at xs i))
numbered-all q k [] = refl
numbered-all q k (x ∷ xs) =
    ap (λ b. q k x && b) (numbered-all q (k + 1) xs ∙ all_same (length xs) _ (λ i. q (k + suc i) (at xs i)) (λ i h. ap (λ n. q n (at xs i)) (omega arith)))
    ∙ ap (λ n. q n x && all (length xs) (λ i. q (k + suc i) (at xs i))) (omega arith)
    ∙ sym (all-front (length xs) (λ i. q (k + i) (at (x ∷ xs) i)))

-- the elements of two lists, side by side
pub paired-all : {A : Type 0} (q : A × ℕ → Bool) (d : A) (n : ℕ) (xs : List A) (ys : List ℕ) → length xs ≡ n → length ys ≡ n → list_all q (zip xs ys) ≡ all n (λ i. q (get_or xs i d, at ys i))
paired-all q d n xs ys e f =
    let size : length (zip xs ys) ≡ n = length-zip xs ys ∙ ap₂ min e f ∙ same n in
    elements-all q (d, 0) (zip xs ys) ∙ ap (λ (m : ℕ). all m (λ i. q (get_or (zip xs ys) i (d, 0)))) size
    ∙ all_same n (λ i. q (get_or (zip xs ys) i (d, 0))) (λ i. q (get_or xs i d, at ys i)) (λ i lt. ap q (get_or-zip xs ys i (d, 0) (omega (arith, e)) (omega (arith, f))))
  where
    same : (m : ℕ) → min m m ≡ m
    same m = omega arith
