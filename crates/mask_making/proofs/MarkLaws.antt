-- A condition's bit taken from the masks of both gates, by its extremes.
use Prim.Native.Nat.{ℕ, ◌+◌, ◌*◌, ◌<◌}
use mathlib.Core.Path.{◌≡◌, sym, ◌∙◌, ap, ap₂}
use mathlib.Core.Bool.{Bool}
use mathlib.Core.List.{List}
use native.Mathlib.Omega.{arith}
use lib.Dec.{ltb}
use Rattle.rules.specs.Bytes.{at, tabulate}
use Rattle.rules.specs.Cell.{singleton, least_over, greatest_over}
use Rattle.laws.proofs.TableLaws.{at-tabulate}
use Rattle.tables.specs.Part.{part, Laid, Two}
use Rattle.tables.proofs.LendLaws.{lent, back, laid_alone}
use Rattle.tables.proofs.PartLaws.{part_at, part_length, laid_as, laid_then, laid-part}
use Rattle.masks.specs.Masks.{above_least, below_greatest}
use Rattle.mask_making.specs.Making.{Space}
use Rattle.mask_making.specs.Marking.{less, marked, Marked}
use Rattle.mask_making.proofs.KeptLaws.{kept-part}

-- a copy, replaced by what is made of it
pub copied : (f : List ℕ → List ℕ) {w : List ℕ} {from to n : ℕ} {w' v : List ℕ} → Two w from to n → Laid w to (part w from n) n w'
    → Laid (lent to n w') 0 (f (part (lent to n w') 0 n)) n v → Laid w to (f (part w from n)) n (back to n w' v)
copied f {w} {from} {to} {n} {w'} p l m =
    let d = p.dst in
    let e = l.len in
    laid_as (ap f (laid-part l d (part_length w from n p.src))) (laid_then l (laid_alone w' to n (omega arith) f m))

module _ {w ks : List ℕ} {n : ℕ} (s : Space w ks n) where
  -- a condition marked for max, then for min: before each, its extremes are laid at the fifth part
  module _ (i b : ℕ) {v₁ v₂ v₃ w' : List ℕ}
      (least : Laid w (4 * n) (least_over ks (singleton i) (part w n n)) n v₁)
      (for-max : Laid v₁ (2 * n) (tabulate n (marked v₁ 0 (4 * n) (2 * n) b)) n v₂)
      (greatest : Laid v₂ (4 * n) (greatest_over ks (singleton i) (part v₂ 0 n)) n v₃)
      (for-min : Laid v₃ (3 * n) (tabulate n (marked v₃ (4 * n) n (3 * n) b)) n w') where
    early : (j : ℕ) → j < 2 * n → at v₂ j ≡ at w j
    early j h = for-max.before j h ∙ least.before j (omega arith)

    pub lines_marked : Marked w ks i n b w'
    unfolding above_least below_greatest
    lines_marked =
        record {
          kept = record {
            len = for-min.len ∙ greatest.len ∙ for-max.len ∙ least.len;
            limits = λ j h. for-min.before j (omega arith) ∙ greatest.before j (omega arith) ∙ early j h;
          };
          cell = λ x h. record {
            first =
                for-min.before (2 * n + x) (omega arith)
                ∙ greatest.before (2 * n + x) (omega arith)
                ∙ for-max.here x h
                ∙ at-tabulate n (marked v₁ 0 (4 * n) (2 * n) b) x h
                ∙ ap₂ (λ (t : Bool) (k : ℕ). less t b k)
                (ap₂ ltb (least.here x h) (least.before (0 + x) (omega arith) ∙ sym (part_at w 0 n x h)))
                (least.before (2 * n + x) (omega arith));
            second =
                for-min.here x h
                ∙ at-tabulate n (marked v₃ (4 * n) n (3 * n) b) x h
                ∙ ap₂ (λ (t : Bool) (k : ℕ). less t b k)
                (ap₂ ltb (greatest.before (n + x) (omega arith) ∙ early (n + x) (omega arith) ∙ sym (part_at w n n x h))
                (greatest.here x h ∙ ap (λ (t : List ℕ). at (greatest_over ks (singleton i) t) x) lower))
                (greatest.before (3 * n + x) (omega arith)
                ∙ for-max.after (3 * n + x) (omega arith)
                ∙ least.before (3 * n + x) (omega arith));
          };
        }
      where
        lower : part v₂ 0 n ≡ part w 0 n
        lower = kept-part s (record { len = for-max.len ∙ least.len; limits = early }) 0 (omega arith)
