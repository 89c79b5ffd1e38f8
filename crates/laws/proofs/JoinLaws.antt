-- The join's theorems: what the limits admit, and what every pair of blocks obeys.
use Prim.Native.Nat.{ℕ, ◌≤◌, ◌<◌, max, zero-le}
use mathlib.Core.Bool.{Bool, true, false}
use mathlib.Core.List.{List}
use native.Mathlib.Nat.{le_refl, le_trans, max-le}
use native.Mathlib.Omega.{arith}
use lib.Dec.{T, leb, ltb, leb→le, le→leb, ltb→lt, lt→ltb}
use Rattle.laws.proofs.TestLaws.{pick_true, by_order}
use Rattle.laws.proofs.TableLaws.{at-tabulate, all-at, all_of}
use Rattle.laws.proofs.OverLaws.{subset, max-bound, min-bound, over_self, over-least, over_blind, blind_part}
use Rattle.rules.specs.Bytes.{pick, at, tabulate}
use Rattle.rules.specs.Cell.{Blind, cells, greatest_over}
use Rattle.rules.specs.Join.{above, u_a, u_b, l_a, l_b, max_exists}

pub above_le : (x y b : ℕ) → (y < x → x ≤ b) → above x y ≤ b
above_le x y b h = go (ltb y x) (λ q. h (ltb→lt y x q))
  where
    go : (q : Bool) → (T q → x ≤ b) → pick q x 0 ≤ b
    go true k = k tt
    go false k = zero-le

pub le_above : (x y : ℕ) → y < x → x ≤ above x y
le_above x y h = rw (pick_true (ltb y x) x 0 (lt→ltb y x h)) (le_refl x)

-- f is at most g at every cell
abbrev pub Under : List ℕ → (ℕ → ℕ) → (ℕ → ℕ) → Type 0
Under ks f g = (c : ℕ) → c < cells ks → f c ≤ g c

-- the greatest over a set: an upper bound, and the least one that is blind to the set
pub greatest_self : (ks : List ℕ) (t : ℕ) (f : ℕ → ℕ) → Under ks f (at (greatest_over ks t (tabulate (cells ks) f)))
greatest_self ks t f c hc = rw (at-tabulate (cells ks) f c hc) at (over_self max-bound ks t (tabulate (cells ks) f) c hc)

pub greatest-least : (ks : List ℕ) (t : ℕ) (f h : ℕ → ℕ) → Blind ks t h → Under ks f h → Under ks (at (greatest_over ks t (tabulate (cells ks) f))) h
greatest-least ks t f h blind le =
    over-least max-bound ks t (tabulate (cells ks) f) h blind (λ c hc. rw (at-tabulate (cells ks) f c hc) (le c hc))

module _ (ks : List ℕ) (s t : ℕ) (l u : List ℕ) where
  pub u_a-under : Under ks (at (u_a ks s t l u)) (at u)
  u_a-under = over_self min-bound ks t u

  pub u_b-under : Under ks (at (u_b ks s t l u)) (at u)
  u_b-under = over_self min-bound ks s u

  -- (ii) the two blocks' limits admit only blocks whose join is within the table's
  pub join_low : (g : List ℕ) (h : ℕ → ℕ) → Under ks (at (l_b ks s t l u g)) h → Under ks (at l) (λ c. max (at g c) (h c))
  join_low g h hl c hc =
      by_order (at l c) (at g c) (λ le. omega arith)
      (λ lt. omega (arith, le_above (at l c) (at g c) lt, greatest_self ks s (λ c. above (at l c) (at g c)) c hc, hl c hc))

  pub join_high : (g h : ℕ → ℕ) → Under ks g (at (u_a ks s t l u)) → Under ks h (at (u_b ks s t l u)) → Under ks (λ c. max (g c) (h c)) (at u)
  join_high g h gu hu c hc = max-le (le_trans (gu c hc) (u_a-under c hc)) (le_trans (hu c hc) (u_b-under c hc))

  -- the join exists: the test, read at each cell
  pub exists-at : T (max_exists ks s t l u) → Under ks (at l) (λ c. max (at (u_a ks s t l u) c) (at (u_b ks s t l u) c))
  exists-at e c hc = leb→le _ _ (all-at (cells ks) (λ c. leb (at l c) (max (at (u_a ks s t l u) c) (at (u_b ks s t l u) c))) e c hc)

  pub exists_of : Under ks (at l) (λ c. max (at (u_a ks s t l u) c) (at (u_b ks s t l u) c)) → T (max_exists ks s t l u)
  exists_of h = all_of (cells ks) (λ c. leb (at l c) (max (at (u_a ks s t l u) c) (at (u_b ks s t l u) c))) (λ c hc. le→leb _ _ (h c hc))

  -- where it exists, both blocks' limits leave room
  pub first-room : T (max_exists ks s t l u) → Under ks (at (l_a ks s t l u)) (at (u_a ks s t l u))
  first-room e =
      greatest-least ks t (λ c. above (at l c) (at (u_b ks s t l u) c)) (at (u_a ks s t l u)) (over_blind min-bound ks t u)
      (λ c hc. above_le (at l c) (at (u_b ks s t l u) c) (at (u_a ks s t l u) c) (λ lt. omega (arith, exists-at e c hc)))

  pub second-room : (g : List ℕ) → Under ks (at (l_a ks s t l u)) (at g) → Under ks (at (l_b ks s t l u g)) (at (u_b ks s t l u))
  second-room g gl =
      greatest-least ks s (λ c. above (at l c) (at g c)) (at (u_b ks s t l u)) (over_blind min-bound ks s u)
      (λ c hc. above_le _ _ _ (λ lt. by_order (at l c) (at (u_b ks s t l u) c) (λ le. le)
      (λ gt. omega (arith, le_above (at l c) (at (u_b ks s t l u) c) gt, greatest_self ks t (λ c. above (at l c) (at (u_b ks s t l u) c)) c hc, gl c hc))))

  -- the converse: two functions that join within the limits lie within the blocks' limits, and the join exists
  module _ (g h : ℕ → ℕ) (gb : Blind ks t g) (hb : Blind ks s h) (low : Under ks (at l) (λ c. max (g c) (h c))) (high : Under ks (λ c. max (g c) (h c)) (at u)) where
    pub pair_u_a : Under ks g (at (u_a ks s t l u))
    pair_u_a = over-least min-bound ks t u g gb (λ c hc. omega (arith, high c hc))

    pub pair_u_b : Under ks h (at (u_b ks s t l u))
    pair_u_b = over-least min-bound ks s u h hb (λ c hc. omega (arith, high c hc))

    pub pair_exists : T (max_exists ks s t l u)
    pair_exists = exists_of (λ c hc. omega (arith, low c hc, pair_u_a c hc, pair_u_b c hc))

    pub pair_l_a : Under ks (at (l_a ks s t l u)) g
    pair_l_a = greatest-least ks t (λ c. above (at l c) (at (u_b ks s t l u) c)) g gb (λ c hc. above_le (at l c) (at (u_b ks s t l u) c) (g c) (λ lt. omega (arith, low c hc, pair_u_b c hc)))

-- (i) the join at two sets gives the join at parts of them
pub exists-part : (ks : List ℕ) (s t s' t' : ℕ) (l u : List ℕ) → T (subset ks s' s) → T (subset ks t' t) → T (max_exists ks s t l u) → T (max_exists ks s' t' l u)
exists-part ks s t s' t' l u ps pt e =
    pair_exists ks s' t' l u (at (u_a ks s t l u)) (at (u_b ks s t l u))
    (blind_part ks t' t _ pt (over_blind min-bound ks t u))
    (blind_part ks s' s _ ps (over_blind min-bound ks s u))
    (exists-at ks s t l u e)
    (λ c hc. max-le (u_a-under ks s t l u c hc) (u_b-under ks s t l u c hc))
