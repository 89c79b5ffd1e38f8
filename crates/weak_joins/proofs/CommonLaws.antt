-- What masks have in common: the fold that takes them together.
use Prim.Native.Nat.{ℕ, suc, ◌+◌, ◌≤◌, ◌<◌}
use mathlib.Core.Path.{◌≡◌, refl, sym, ◌∙◌, ap, ap₂}
use mathlib.Core.Bool.{Bool, true, false, ◌&&◌, ◌||◌}
use mathlib.Core.List.{List, [], ◌∷◌, map}
use native.Mathlib.Omega.{arith}
use lib.Bits.{bit_and}
use lib.Dec.{eqb}
use lib.ListN.{length}
use Rattle.std.specs.List.{fold, zip, slice_range}
use Rattle.std.proofs.Math.Bool.{and_assoc}
use Rattle.rules.specs.Bytes.{pick, at, all}
use Rattle.rules.specs.Cell.{has}
use Rattle.laws.proofs.ChainLaws.{all-front}
use Rattle.laws.proofs.SetLaws.{has-and}
use Rattle.laws.proofs.TableLaws.{all-at}
use Rattle.laws.proofs.TestLaws.{and_true, passed}
use Rattle.tables.specs.Part.{part}
use Rattle.tables.proofs.LendLaws.{lent_length, lent-part}
use Rattle.weak_joins.specs.Trying.{Common}

pub full_byte : (j : ℕ) → j < 8 → has 255 j ≡ true
full_byte j h = passed (has 255 j) (all-at 8 (has 255) tt j h)

-- what a cell's mask counts as, beside its grade
abbrev pub bound : ℕ → ℕ × ℕ → ℕ
bound free p = pick (eqb p.1 free) 255 p.0

-- a fold over masks and grades, begun with a set s
fold-bound : (free : ℕ) (xs ys : List ℕ) (s j : ℕ) → j < 8 → length ys ≡ length xs
    → has (fold bit_and s (map (bound free) (zip xs ys))) j ≡ has s j && all (length xs) (λ c. eqb (at ys c) free || has (at xs c) j)
fold-bound free [] ys s j h e = and_true (has s j)
fold-bound free (x ∷ xs) [] s j h e = absurd (omega arith)
fold-bound free (x ∷ xs) (y ∷ ys) s j h e =
    let counts : ℕ → Bool = λ c. eqb (at (y ∷ ys) c) free || has (at (x ∷ xs) c) j in
    fold-bound free xs ys (bit_and s (bound free (x, y))) j h (omega arith)
    ∙ ap (λ (b : Bool). b && all (length xs) (λ c. counts (suc c))) (has-and s (bound free (x, y)) j ∙ ap (λ (b : Bool). has s j && b) (taken (eqb y free)))
    ∙ and_assoc (has s j) (counts 0) (all (length xs) (λ c. counts (suc c)))
    ∙ ap (λ (b : Bool). has s j && b) (sym (all-front (length xs) counts))
  where
    taken : (b : Bool) → has (pick b 255 x) j ≡ b || has x j
    taken true = full_byte j h
    taken false = refl

-- over the masks at a and the grades at g
pub common_part : (w : List ℕ) (a g n free : ℕ) → a + n ≤ length w → g + n ≤ length w
    → Common n (part w a n) (part w g n) free (fold bit_and 255 (map (bound free) (zip (slice_range w a (a + n)) (slice_range w g (g + n)))))
common_part w a g n free h k =
    record {
      has-is = λ j lt.
          let xs = slice_range w a (a + n) in
          let ys = slice_range w g (g + n) in
          fold-bound free xs ys 255 j lt (size g k ∙ sym (size a h))
          ∙ ap (λ (b : Bool). b && all (length xs) (λ c. eqb (at ys c) free || has (at xs c) j)) (full_byte j lt)
          ∙ ap (λ (q : ℕ). all q (λ c. eqb (at ys c) free || has (at xs c) j)) (size a h)
          ∙ ap₂ (λ (u v : List ℕ). all n (λ c. eqb (at v c) free || has (at u c) j)) (lent-part a n w) (lent-part g n w);
    }
  where
    size : (b : ℕ) → b + n ≤ length w → length (slice_range w b (b + n)) ≡ n
    size b l = lent_length b n w l
