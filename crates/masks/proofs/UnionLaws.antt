-- What masks have together: the loops that unite them, and what that says of single masks.
use Prim.Native.Nat.{ℕ, ◌+◌, ◌≤◌}
use mathlib.Core.Path.{◌≡◌, refl, sym, ◌∙◌, ap, subst}
use mathlib.Core.Bool.{cond, Bool, true, false, not, ◌&&◌, ◌||◌, not-not}
use mathlib.Core.List.{List, [], ◌∷◌}
use lib.Bits.{bit_or}
use lib.Dec.{T}
use lib.ListN.{length}
use Rattle.std.specs.List.{filter, fold, list_any, slice_range}
use Rattle.std.specs.Int.Bits.{or_zero_r}
use Rattle.rules.specs.Bytes.{pick}
use Rattle.rules.specs.Cell.{has}
use Rattle.laws.proofs.SetLaws.{has-none, has-or}
use Rattle.laws.proofs.TestLaws.{passed, failed}
use Rattle.tables.specs.Part.{part}
use Rattle.masks.proofs.ScanLaws.{any_part}
use Rattle.masks.specs.Masks.{none_of, none_has, Union, every}

-- a fold over the masks of a slice that pass the test
pub union_part : (w : List ℕ) (a n : ℕ) (q : ℕ → Bool) → a + n ≤ length w → Union n (part w a n) q (fold bit_or 0 (filter q (slice_range w a (a + n))))
union_part w a n q h =
    record {
      has-is = λ j.
          let t = slice_range w a (a + n) in
          onto t 0 j
          ∙ ap (λ (b : Bool). b || list_any (λ x. q x && has x j) t) (failed (has 0 j) (has-none j))
          ∙ any_part w a n (λ x. q x && has x j) h;
    }
  where
    regroup : (a b c : Bool) → (a || b) || c ≡ a || (b || c)
    regroup true b c = refl
    regroup false b c = refl

    -- begun with a set s
    onto : (l : List ℕ) (s j : ℕ) → has (fold bit_or s (filter q l)) j ≡ has s j || list_any (λ x. q x && has x j) l
    onto [] s j = or-false (has s j)
      where
        or-false : (b : Bool) → b ≡ b || false
        or-false true = refl
        or-false false = refl
    onto (x ∷ l) s j = go (q x) (onto l)
      where
        go : (b : Bool) → ((r k : ℕ) → has (fold bit_or r (filter q l)) k ≡ has r k || list_any (λ x. q x && has x k) l)
            → has (fold bit_or s (cond b (x ∷ filter q l) (filter q l))) j ≡ has s j || ((b && has x j) || list_any (λ x. q x && has x j) l)
        go true f =
            f (bit_or s x) j ∙ ap (λ (b : Bool). b || list_any (λ x. q x && has x j) l) (has-or s x j)
            ∙ regroup (has s j) (has x j) (list_any (λ x. q x && has x j) l)
        go false f = f s j

-- the same where none stands for a mask that does not pass
pub union_picked : (w : List ℕ) (a n : ℕ) (q : ℕ → Bool) → a + n ≤ length w → Union n (part w a n) q (fold (λ s x. bit_or s (pick (q x) x 0)) 0 (slice_range w a (a + n)))
union_picked w a n q h = subst (Union n (part w a n) q) (sym (picked (slice_range w a (a + n)) 0)) (union_part w a n q h)
  where
    picked : (l : List ℕ) (s : ℕ) → fold (λ s x. bit_or s (pick (q x) x 0)) s l ≡ fold bit_or s (filter q l)
    picked [] s = refl
    picked (x ∷ l) s = go (q x) (picked l)
      where
        go : (b : Bool) → ((r : ℕ) → fold (λ s x. bit_or s (pick (q x) x 0)) r l ≡ fold bit_or r (filter q l))
            → fold (λ s x. bit_or s (pick (q x) x 0)) (bit_or s (pick b x 0)) l ≡ fold bit_or s (cond b (x ∷ filter q l) (filter q l))
        go true f = f (bit_or s x)
        go false f = ap (λ (r : ℕ). fold (λ s x. bit_or s (pick (q x) x 0)) r l) (or_zero_r s) ∙ f s

-- over all of them
pub union_whole : (w : List ℕ) (a n : ℕ) → a + n ≤ length w → Union n (part w a n) every (fold bit_or 0 (slice_range w a (a + n)))
union_whole w a n h = subst (λ (t : List ℕ). Union n (part w a n) every (fold bit_or 0 t)) (kept (slice_range w a (a + n))) (union_part w a n every h)
  where
    kept : (t : List ℕ) → filter every t ≡ t
    kept [] = refl
    kept (x ∷ t) = ap (λ (u : List ℕ). x ∷ u) (kept t)

-- none of the masks that pass the test has a condition exactly where the union does not
pub none_with : {n : ℕ} {t : List ℕ} {q : ℕ → Bool} {s : ℕ} → Union n t q s
    → (j : ℕ) → none_of n t (λ x. q x && has x j) ≡ not (has s j)
none_with u j = sym (not-not _) ∙ ap not (sym (u.has-is j))

-- a condition that the union of all has, one mask has
pub no_one_seen : {n : ℕ} {t : List ℕ} {s : ℕ} → Union n t every s → (i : ℕ) → T (has s i) → none_has n t i ≡ false
no_one_seen {s = s} u i h = none_with u i ∙ ap not (passed (has s i) h)
