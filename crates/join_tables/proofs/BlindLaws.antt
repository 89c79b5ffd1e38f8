-- Row 9: a block is blind to a set exactly when it is its own greatest over the set.
use Prim.Native.Nat.{ℕ, ◌≤◌, ◌<◌}
use mathlib.Core.Path.{◌≡◌}
use mathlib.Core.Bool.{Bool, true, false, not, ◌&&◌, ◌||◌}
use mathlib.Core.List.{List}
use native.Mathlib.Nat.{le_refl, le_trans, le_antisymm}
use lib.Dec.{T, leb, leb→le, le→leb, eqb, eqb→eq, eqb_refl}
use Rattle.rules.specs.Bytes.{at, all}
use Rattle.rules.specs.Cell.{Blind, cells, agree_outside, greatest_over}
use Rattle.rules.specs.Limits.{Limits}
use Rattle.rules.specs.Join.{blind_test, block_sound}
use Rattle.rules.specs.Demands.{Inside}
use Rattle.laws.proofs.TestLaws.{and_l, and_r, and_i, same_test}
use Rattle.laws.proofs.TableLaws.{all-at, all_of}
use Rattle.laws.proofs.OverLaws.{max-bound, over-at, over-least, agree_sym}

-- two tests that pass together
unless-agree : (a e : Bool) → T (not a || e) → T a → T e
unless-agree true e h q = h
unless-agree false e h q = absurd q

agree_then : (a e : Bool) → (T a → T e) → T (not a || e)
agree_then true e f = f tt
agree_then false e f = tt

module _ (ks : List ℕ) (t : ℕ) (g : List ℕ) where
  pub test_blind : T (blind_test ks t g) → Blind ks t (at g)
  test_blind h c d hc hd a =
      eqb→eq _ _ (unless-agree (agree_outside ks t c d) (eqb (at g c) (at g d)) (all-at (cells ks) _ (all-at (cells ks) _ h c hc) d hd) a)

  pub blind_test_lem : Blind ks t (at g) → T (blind_test ks t g)
  blind_test_lem b =
      all_of (cells ks) _ (λ c hc. all_of (cells ks) _ (λ d hd. agree_then (agree_outside ks t c d) (eqb (at g c) (at g d)) (λ a. rw (b c d hc hd a) (eqb_refl (at g d)))))

  own_blind : T (all (cells ks) (λ c. leb (at (greatest_over ks t g) c) (at g c))) → Blind ks t (at g)
  own_blind h c d hc hd a = le_antisymm (half d c hd hc (agree_sym ks t c d a)) (half c d hc hd a)
    where
      half : (c d : ℕ) → c < cells ks → d < cells ks → T (agree_outside ks t c d) → at g d ≤ at g c
      half c d hc hd a = le_trans (over-at max-bound ks t g c d hc hd a) (leb→le _ _ (all-at (cells ks) _ h c hc))

  pub own-greatest : all (cells ks) (λ c. leb (at (greatest_over ks t g) c) (at g c)) ≡ blind_test ks t g
  own-greatest =
      same_test _ _ (λ h. blind_test_lem (own_blind h)) (λ h. all_of (cells ks) _ (λ c hc. le→leb _ _ (over-least max-bound ks t g (at g) (test_blind h) (λ c hc. le_refl _) c hc)))

-- tests of two things at every cell
all-and : (n : ℕ) (p q : ℕ → Bool) → all n (λ c. p c && q c) ≡ (all n p && all n q)
all-and n p q =
    same_test _ _
    (λ h. and_i (all n p) (all n q) (all_of n p (λ c lt. and_l (p c) (q c) (all-at n _ h c lt))) (all_of n q (λ c lt. and_r (p c) (q c) (all-at n _ h c lt))))
    (λ h. all_of n _ (λ c lt. and_i (p c) (q c) (all-at n p (and_l (all n p) (all n q) h) c lt) (all-at n q (and_r (all n p) (all n q) h) c lt)))

module _ (ks : List ℕ) (t : ℕ) (l : Limits) (g : List ℕ) where
  abbrev within : ℕ → Bool
  within c = leb (at l.lower c) (at g c) && leb (at g c) (at l.upper c)

  -- row 9, test by test
  pub block_by : (a b e : Bool) → all (cells ks) (λ c. leb (at l.lower c) (at g c)) ≡ a → all (cells ks) (λ c. leb (at g c) (at l.upper c)) ≡ b → blind_test ks t g ≡ e
      → block_sound ks t l g ≡ ((a && b) && e)
  block_by a b e p q r = let z = all-and (cells ks) (λ c. leb (at l.lower c) (at g c)) (λ c. leb (at g c) (at l.upper c)) in cc

  -- what it lets pass
  pub block_blind : T (block_sound ks t l g) → Blind ks t (at g)
  block_blind h = test_blind ks t g (and_r (all (cells ks) within) (blind_test ks t g) h)

  pub block_inside : T (block_sound ks t l g) → Inside ks l (at g)
  block_inside h c hc =
      let b = all-at (cells ks) within (and_l (all (cells ks) within) (blind_test ks t g) h) c hc in
      (leb→le _ _ (and_l (leb (at l.lower c) (at g c)) (leb (at g c) (at l.upper c)) b), leb→le _ _ (and_r (leb (at l.lower c) (at g c)) (leb (at g c) (at l.upper c)) b))
