-- A slice of the buffer whose bytes are changed one by one, and that goes back.
use Prim.Native.Nat.{ℕ, ◌+◌, ◌-◌, ◌≤◌, ◌<◌}
use mathlib.Core.Path.{◌≡◌, refl, sym, ◌∙◌, ap}
use mathlib.Core.List.{List}
use native.Mathlib.Omega.{arith}
use borrow.Author.Count.{below_more}
use borrow.Rule.Slice.PartMut.{put_mid}
use lib.ListN.{length, set, length-set}
use lib.Seq.{get_or-set_same, get_or-set_other}
use Rattle.std.specs.List.{slice_range}
use Rattle.rules.specs.Bytes.{at, tabulate}
use Rattle.laws.proofs.TableLaws.{at-tabulate}
use Rattle.tables.specs.Part.{part, Laid}
use Rattle.tables.proofs.LendLaws.{lent_length, lent-part, laid_over}

-- a loop's state: the first i bytes of s are put through f
pub record Turned (f : ℕ → ℕ) (s : List ℕ) (i : ℕ) (s' : List ℕ) : Type 0 where
  pub len : length s' ≡ length s
  pub done : (k : ℕ) → k < i → at s' k ≡ f (at s k)
  pub left : (k : ℕ) → i ≤ k → at s' k ≡ at s k

pub turned_none : {f : ℕ → ℕ} {s : List ℕ} → Turned f s 0 s
turned_none = record { len = refl; done = λ k h. absurd (omega arith); left = λ k h. refl }

-- one byte more
pub turned_more : {f : ℕ → ℕ} {s s' : List ℕ} {i : ℕ} → Turned f s i s' → i < length s' → Turned f s (i + 1) (set s' i (f (at s' i)))
turned_more {f} {s} {s'} {i} t h =
    record {
      len = length-set s' i _ ∙ t.len;
      done =
          below_more (λ k. at (set s' i (f (at s' i))) k ≡ f (at s k)) i
          (λ k lt. get_or-set_other s' i k _ 0 (λ q. omega arith) ∙ t.done k lt)
          (get_or-set_same s' i _ 0 h ∙ ap f (t.left i (omega arith)));
      left = λ k le. get_or-set_other s' i k _ 0 (λ q. omega arith) ∙ t.left k (omega arith);
    }

-- the slice is back: a table that is laid where it stood
pub turned_laid : {f : ℕ → ℕ} {s' : List ℕ} {i : ℕ} (w : List ℕ) (a n : ℕ) → a + n ≤ length w → Turned f (slice_range w a (a + n)) i s' → n ≤ i
    → Laid w a (tabulate n (λ x. f (at (part w a n) x))) n (put_mid a (a + n - a) w s')
turned_laid {f} {s'} {i} w a n h t le =
    laid_over a n s' (tabulate n (λ x. f (at (part w a n) x))) h (t.len ∙ lent_length a n w h)
    (λ k lt. t.done k (omega arith) ∙ ap (λ (l : List ℕ). f (at l k)) (lent-part a n w) ∙ sym (at-tabulate n _ k lt))
