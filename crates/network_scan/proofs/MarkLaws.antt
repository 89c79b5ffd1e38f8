-- The marks of a scan: 1 for each good record passed, 0 from there on.
use Prim.Native.Nat.{ℕ, zero, suc, ◌+◌, ◌≤◌, ◌<◌}
use mathlib.Core.Path.{◌≡◌, refl, sym, ◌∙◌, ap, ap₂}
use mathlib.Core.Bool.{Bool, true, false, ◌&&◌}
use mathlib.Core.List.{List}
use native.Mathlib.Nat.{not-suc-le-zero, le_refl}
use native.Mathlib.Omega.{arith}
use borrow.Author.Count.{below_more}
use lib.Dec.{eqb}
use lib.ListN.{length, set, take, replicate, length-set, length-take, get_or-replicate}
use lib.Seq.{get_or-set_same, get_or-set_other, get_or-take}
use Rattle.rules.specs.Bytes.{pick, at, all}

pub record Marked (good : ℕ → Bool) (marks : List ℕ) (k : ℕ) : Type 0 where
  pub long : length marks ≡ 4096
  pub below : (j : ℕ) → j < k → at marks j ≡ pick (good j) 1 0
  pub above : (j : ℕ) → k ≤ j → j < 4096 → at marks j ≡ 0

module _ (good : ℕ → Bool) where
  pub marked_start : Marked good (replicate 4096 0) 0
  marked_start =
      record { long = refl; below = λ j l. absurd (not-suc-le-zero l); above = λ j h l. get_or-replicate 4096 j 0 0 l }

  module _ (marks : List ℕ) (k : ℕ) (m : Marked good marks k) (l : k < 4096) where
    -- a good record is marked
    pub marked_good : good k ≡ true → Marked good (set marks k 1) (k + 1)
    marked_good e =
        record {
          long = length-set marks k 1 ∙ m.long;
          below =
              below_more _ k (λ j h. get_or-set_other marks k j 1 0 (λ q. omega arith) ∙ m.below j h)
              (get_or-set_same marks k 1 0 (omega (arith, m.long)) ∙ ap (λ (b : Bool). pick b 1 0) (sym e));
          above = λ j h n. get_or-set_other marks k j 1 0 (λ q. omega arith) ∙ m.above j (omega arith) n;
        }

    -- a faulty one is not
    pub marked-faulty : good k ≡ false → Marked good marks (k + 1)
    marked-faulty e =
        record {
          long = m.long;
          below = below_more _ k m.below (m.above k (le_refl k) l ∙ ap (λ (b : Bool). pick b 1 0) (sym e));
          above = λ j h n. m.above j (omega arith) n;
        }

  mark_one : (b : Bool) → eqb (pick b 1 0) 1 ≡ b
  mark_one true = refl
  mark_one false = refl

  all_marks : (marks : List ℕ) (n : ℕ) → ((j : ℕ) → j < n → at marks j ≡ pick (good j) 1 0) → all n (λ k. eqb (at marks k) 1) ≡ all n good
  all_marks marks zero h = refl
  all_marks marks (suc n) h =
      ap₂ (λ (a b : Bool). a && b) (all_marks marks n (λ j l. h j (omega arith))) (ap (λ (x : ℕ). eqb x 1) (h n (le_refl (suc n))) ∙ mark_one (good n))

  -- the first marks are all 1 exactly when the first records are all good
  pub marked_all : (marks : List ℕ) (n : ℕ) → Marked good marks n → n ≤ 4096 → all (length (take n marks)) (λ k. eqb (at (take n marks) k) 1) ≡ all n good
  marked_all marks n m h =
      let long : length (take n marks) ≡ n = length-take n marks ∙ omega (arith, m.long) in
      ap (λ (i : ℕ). all i (λ k. eqb (at (take n marks) k) 1)) long
      ∙ all_marks (take n marks) n (λ j l. get_or-take n marks j 0 l ∙ m.below j l)
