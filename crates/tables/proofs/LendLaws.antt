-- A part of a buffer that is lent on, the k bytes from a on, and the buffer when it comes back.
use Prim.Native.Nat.{ℕ, ◌+◌, ◌-◌, ◌≤◌, ◌<◌}
use mathlib.Core.Path.{◌≡◌, sym, ◌∙◌, ap, subst}
use mathlib.Core.List.{List, ◌++◌}
use native.Mathlib.Nat.{add-zero, zero-add}
use native.Mathlib.Omega.{arith}
use borrow.Rule.Slice.PartMut.{put_mid, post_of, same_len_mid}
use lib.ListN.{length, take, drop, length-take, length-append, get_or-append}
use lib.Seq.{take_all, get_or-take, get_or-drop, get_or-append-add, ext_get_or}
use Rattle.std.proofs.lemmas.List.{get_or_past}
use Rattle.rules.specs.Bytes.{at}
use Rattle.laws.proofs.TestLaws.{by_order}
use Rattle.tables.specs.Part.{part, Laid}
use Rattle.tables.proofs.PartLaws.{part_at, part_length, laid_as}

-- what is lent, as the language has it
abbrev pub lent : ℕ → ℕ → List ℕ → List ℕ
lent a k w = take (a + k - a) (drop a w)

pub lent-part : (a k : ℕ) (w : List ℕ) → lent a k w ≡ part w a k
unfolding part
lent-part a k w = let e : a + k - a ≡ k = omega arith in ap (λ (n : ℕ). take n (drop a w)) e

pub lent_length : (a k : ℕ) (w : List ℕ) → a + k ≤ length w → length (lent a k w) ≡ k
lent_length a k w h = ap length (lent-part a k w) ∙ part_length w a k h

pub lent_at : (a k : ℕ) (w : List ℕ) (j : ℕ) → j < k → at (lent a k w) j ≡ at w (a + j)
lent_at a k w j h = get_or-take (a + k - a) (drop a w) j 0 (omega arith) ∙ get_or-drop a w j 0

-- the first n bytes, which are lent from 0 up to n
abbrev pub front : ℕ → List ℕ → List ℕ
front n w = take (n - 0) (drop 0 w)

pub front_length : (n : ℕ) (w : List ℕ) → n ≤ length w → length (front n w) ≡ n
front_length n w h = simp length-take (omega arith)

pub front_at : (n : ℕ) (w : List ℕ) (j : ℕ) → j < n → at (front n w) j ≡ at w j
front_at n w j h = get_or-take (n - 0) w j 0 (omega arith)

-- the buffer with v in its place
abbrev pub back : ℕ → ℕ → List ℕ → List ℕ → List ℕ
back a k w v = put_mid a (a + k - a) w v

-- a table laid in the part is laid in the buffer
pub laid-back : (a k : ℕ) {w : List ℕ} {to : ℕ} {t : List ℕ} {n : ℕ} {v : List ℕ} → a + k ≤ length w → to + n ≤ k → Laid (lent a k w) to t n v → Laid w (a + to) t n (back a k w v)
laid-back a k {w} {to} {t} {n} {v} h g l =
    record {
      len = same;
      here = λ j lt. let e : a + to + j ≡ a + (to + j) = omega arith in ap (at (back a k w v)) e ∙ inside (to + j) (omega arith) ∙ l.here j lt;
      before = λ j lt.
          by_order a j
          (λ le. let e : a + (j - a) ≡ j = omega arith in outside j e (omega arith) (l.before (j - a) (omega arith)))
          (λ lo. front j lo);
      after = λ j le.
          by_order (a + k) j (λ hi. behind j hi)
          (λ lo. let e : a + (j - a) ≡ j = omega arith in outside j e (omega arith) (l.after (j - a) (omega arith)));
    }
  where
    size : length v ≡ k
    size = l.len ∙ lent_length a k w h

    same : length (back a k w v) ≡ length w
    same = same_len_mid a (a + k - a) w v l.len

    first : length (take a w) ≡ a
    first = simp length-take (omega arith)

    past : List ℕ
    past = post_of a (a + k - a) w

    front : (j : ℕ) → j < a → at (back a k w v) j ≡ at w j
    front j lt = get_or-append (take a w) (v ++ past) 0 j (omega (arith, first)) ∙ get_or-take a w j 0 lt

    inside : (j : ℕ) → j < k → at (back a k w v) (a + j) ≡ at v j
    inside j lt =
        let e : a + j ≡ length (take a w) + j = omega (arith, first) in
        ap (at (take a w ++ (v ++ past))) e ∙ get_or-append-add (take a w) (v ++ past) j 0 ∙ get_or-append v past 0 j (omega (arith, size))

    behind : (j : ℕ) → a + k ≤ j → at (back a k w v) j ≡ at w j
    behind j le =
        let i = j - (a + k) in
        let e : j ≡ length (take a w) + (length v + i) = omega (arith, first, size) in
        let q : a + (a + k - a + i) ≡ j = omega arith in
        ap (at (take a w ++ (v ++ past))) e ∙ get_or-append-add (take a w) (v ++ past) (length v + i) 0 ∙ get_or-append-add v past i 0
        ∙ get_or-drop (a + k - a) (drop a w) i 0 ∙ get_or-drop a w (a + k - a + i) 0 ∙ ap (at w) q

    outside : (j : ℕ) {i : ℕ} → a + i ≡ j → i < k → at v i ≡ at (lent a k w) i → at (back a k w v) j ≡ at w j
    outside j {i} e lt q = sym (ap (at (back a k w v)) e) ∙ inside i lt ∙ q ∙ lent_at a k w i lt ∙ ap (at w) e

-- the n bytes from a on, lent alone: what is made of them, in their place
module _ (w : List ℕ) (a n : ℕ) (h : a + n ≤ length w) where
  lent-whole : part (lent a n w) 0 n ≡ part w a n
  unfolding part
  lent-whole = take_all n (lent a n w) (omega (arith, lent_length a n w h)) ∙ lent-part a n w

  pub laid_alone : (f : List ℕ → List ℕ) {v : List ℕ} → Laid (lent a n w) 0 (f (part (lent a n w) 0 n)) n v → Laid w a (f (part w a n)) n (back a n w v)
  laid_alone f {v} l =
      laid_as (ap f lent-whole)
      (subst (λ (b : ℕ). Laid w b (f (part (lent a n w) 0 n)) n (back a n w v)) (add-zero a) (laid-back a n h (omega arith) l))

-- the n bytes from a on, all written over
pub laid_over : (a n : ℕ) {w : List ℕ} (v t : List ℕ) → a + n ≤ length w → length v ≡ n → ((k : ℕ) → k < n → at v k ≡ at t k) → Laid w a t n (back a n w v)
laid_over a n {w} v t h e f = subst (λ (b : ℕ). Laid w b t n (back a n w v)) (add-zero a) (laid-back a n h (omega arith) whole)
  where
    size : length (lent a n w) ≡ n
    size = lent_length a n w h

    whole : Laid (lent a n w) 0 t n v
    whole =
        record {
          len = e ∙ sym size;
          here = λ k lt. ap (at v) (zero-add k) ∙ f k lt;
          before = λ j lt. absurd (omega arith);
          after = λ j le. get_or_past v j 0 (omega (arith, e)) ∙ sym (get_or_past (lent a n w) j 0 (omega (arith, size)));
        }

-- the same where the buffer was split in three: what stands before them, they, what stands behind
module _ (w low rest cells high : List ℕ) (a n : ℕ) (e : w ≡ low ++ rest) (la : length low ≡ a) (f : rest ≡ cells ++ high) (ln : length cells ≡ n) where
  pub parts_joined : w ≡ low ++ (cells ++ high)
  parts_joined = e ∙ ap (λ (x : List ℕ). low ++ x) f

  pub laid_between : (v t : List ℕ) → length v ≡ n → ((k : ℕ) → k < n → at v k ≡ at t k) → Laid w a t n (low ++ (v ++ high))
  laid_between v t lv g =
      subst (λ (x : List ℕ). Laid x a t n (low ++ (v ++ high))) (sym parts_joined)
      record {
        len = length-append low (v ++ high) ∙ ap (λ (x : ℕ). length low + x) (length-append v high ∙ ap (λ (x : ℕ). x + length high) (lv ∙ sym ln) ∙ sym (length-append cells high)) ∙ sym (length-append low (cells ++ high));
        here = λ k lt. read v k (omega arith) ∙ g k lt;
        before = λ j lt. get_or-append low (v ++ high) 0 j (omega arith) ∙ sym (get_or-append low (cells ++ high) 0 j (omega arith));
        after = λ j le. past v j lv le ∙ sym (past cells j ln le);
      }
    where
      read : (x : List ℕ) (k : ℕ) → k < length x → at (low ++ (x ++ high)) (a + k) ≡ at x k
      read x k lt = let i : a + k ≡ length low + k = omega arith in ap (at (low ++ (x ++ high))) i ∙ get_or-append-add low (x ++ high) k 0 ∙ get_or-append x high 0 k lt

      past : (x : List ℕ) (j : ℕ) → length x ≡ n → a + n ≤ j → at (low ++ (x ++ high)) j ≡ at high (j - (a + n))
      past x j lx le =
          let i : j ≡ length low + (length x + (j - (a + n))) = omega arith in
          ap (at (low ++ (x ++ high))) i ∙ get_or-append-add low (x ++ high) (length x + (j - (a + n))) 0 ∙ get_or-append-add x high (j - (a + n)) 0

  -- what was asked for beside them is what stood there
  pub beside-part : (r : List ℕ) (from : ℕ) → ((v : List ℕ) → length v ≡ n → r ≡ part (low ++ (v ++ high)) from n) → r ≡ part w from n
  beside-part r from h = h cells ln ∙ ap (λ (x : List ℕ). part x from n) (sym parts_joined)

-- a part of one buffer that is the part of another
pub lent-same : (x w : List ℕ) (a b n : ℕ) → a + n ≤ length x → b + n ≤ length w → ((k : ℕ) → k < n → at x (a + k) ≡ at w (b + k)) → lent a n x ≡ part w b n
lent-same x w a b n h g f =
    let l : length (part x a n) ≡ n = part_length x a n h in
    lent-part a n x ∙ ext_get_or 0 (part x a n) (part w b n) (l ∙ sym (part_length w b n g)) (λ k lt. let q : k < n = omega (arith, l) in part_at x a n k q ∙ f k q ∙ sym (part_at w b n k q))

-- a part before n bytes, or behind them
module _ (low v high : List ℕ) (from n : ℕ) where
  pub part-low : from + n ≤ length low → lent from n low ≡ part (low ++ (v ++ high)) from n
  part-low h =
      lent-same low (low ++ (v ++ high)) from from n h (omega (arith, length-append low (v ++ high)))
      (λ k lt. sym (get_or-append low (v ++ high) 0 (from + k) (omega arith)))

  pub part-high : length v ≡ n → length low + n ≤ from → from ≤ length low + length high → from + n ≤ length (low ++ (v ++ high)) → lent (from - length low - n) n high ≡ part (low ++ (v ++ high)) from n
  part-high lv h g i =
      let start = from - length low - n in
      lent-same high (low ++ (v ++ high)) start from n (omega (arith, length-append low (v ++ high), length-append v high)) i
      (λ k lt.
      let j : from + k ≡ length low + (length v + (start + k)) = omega arith in
      sym (ap (at (low ++ (v ++ high))) j ∙ get_or-append-add low (v ++ high) (length v + (start + k)) 0 ∙ get_or-append-add v high (start + k) 0))
