-- A scan of the masks for one that passes a test.
use Prim.Native.Nat.{ℕ, zero, suc, ◌+◌, ◌≤◌}
use mathlib.Core.Path.{◌≡◌, refl, sym, ◌∙◌, ap}
use mathlib.Core.Bool.{Bool, true, false, not, ◌&&◌, ◌||◌}
use mathlib.Core.List.{List}
use native.Mathlib.Numerals.{add-one}
use native.Mathlib.Omega.{arith}
use lib.ListN.{length, take}
use Rattle.std.specs.List.{slice_range, list_any}
use Rattle.std.proofs.lemmas.List.Folds.{list_any_more}
use Rattle.rules.specs.Bytes.{at}
use Rattle.laws.proofs.LoopLaws.{take_whole}
use Rattle.tables.specs.Part.{part}
use Rattle.tables.proofs.LendLaws.{lent-part}
use Rattle.tables.proofs.PartLaws.{part_length}
use Rattle.masks.specs.Masks.{none_of}

-- one of the masks of a slice passes a test exactly where not none does
pub any_part : (w : List ℕ) (a n : ℕ) (q : ℕ → Bool) → a + n ≤ length w → list_any q (slice_range w a (a + n)) ≡ not (none_of n (part w a n) q)
unfolding none_of
any_part w a n q h = ap (list_any q) (lent-part a n w ∙ sym (take_whole (part w a n) n e)) ∙ go n (omega (arith, e))
  where
    e : length (part w a n) ≡ n
    e = part_length w a n h

    either : (b c : Bool) → not b || c ≡ not (b && not c)
    either true true = refl
    either true false = refl
    either false c = refl

    go : (m : ℕ) → m ≤ length (part w a n) → list_any q (take m (part w a n)) ≡ not (none_of m (part w a n) q)
    go zero h = refl
    go (suc m) h =
        ap (λ (k : ℕ). list_any q (take k (part w a n))) (sym (add-one m))
        ∙ list_any_more q (part w a n) m 0 h
        ∙ ap (λ (b : Bool). b || q (at (part w a n) m)) (go m (omega arith))
        ∙ either (none_of m (part w a n) q) (q (at (part w a n) m))
