-- Laws of parts of a buffer: for loops that fill one, and for what stands there afterwards.
use Prim.Native.Nat.{ℕ, ◌+◌, ◌-◌, ◌≤◌, ◌<◌}
use mathlib.Core.Path.{◌≡◌, refl, sym, ◌∙◌, ap, subst}
use mathlib.Core.List.{List, ◌++◌}
use mathlib.Core.Logic.{⊎_elim}
use native.Mathlib.Nat.{zero-add}
use native.Mathlib.Omega.{arith}
use borrow.Author.Count.{below_more}
use lib.ListN.{length, set, drop, length-set, length-take, length-drop, length-append, get_or-append}
use lib.Seq.{get_or-set_same, get_or-set_other, get_or-take, get_or-drop, get_or-append-add, ext_get_or}
use Rattle.rules.specs.Bytes.{at, tabulate}
use Rattle.laws.proofs.TableLaws.{at-tabulate}
use Rattle.laws.proofs.TestLaws.{by_order}
use Rattle.tables.specs.Part.{part, Laid, Apart}

pub part_at : (w : List ℕ) (a n k : ℕ) → k < n → at (part w a n) k ≡ at w (a + k)
unfolding part
part_at w a n k h = get_or-take n (drop a w) k 0 h ∙ get_or-drop a w k 0

pub part_length : (w : List ℕ) (a n : ℕ) → a + n ≤ length w → length (part w a n) ≡ n
unfolding part
part_length w a n h = simp (length-take, length-drop) (omega arith)

-- a loop's state: w' is w with f 0, f 1, .. at a, n of them
pub record Filled (w : List ℕ) (a : ℕ) (f : ℕ → ℕ) (n : ℕ) (w' : List ℕ) : Type 0 where
  pub len : length w' ≡ length w
  pub here : (k : ℕ) → k < n → at w' (a + k) ≡ f k
  pub before : (j : ℕ) → j < a → at w' j ≡ at w j
  pub after : (j : ℕ) → a + n ≤ j → at w' j ≡ at w j

pub filled_none : (w : List ℕ) (a : ℕ) (f : ℕ → ℕ) → Filled w a f 0 w
filled_none w a f = record { len = refl; here = λ k h. absurd (omega arith); before = λ j h. refl; after = λ j h. refl }

-- one byte more
pub filled_more : {w : List ℕ} {a : ℕ} {f : ℕ → ℕ} {c : ℕ} {w' : List ℕ} (x : ℕ) → Filled w a f c w' → a + c < length w → x ≡ f c → Filled w a f (c + 1) (set w' (a + c) x)
filled_more {w} {a} {f} {c} {w'} x l h e =
    record {
      len = length-set w' (a + c) x ∙ l.len;
      here =
          below_more (λ k. at (set w' (a + c) x) (a + k) ≡ f k) c
          (λ k lt. get_or-set_other w' (a + c) (a + k) x 0 (λ q. omega arith) ∙ l.here k lt)
          (get_or-set_same w' (a + c) x 0 (let n = l.len in omega arith) ∙ e);
      before = λ j lt. get_or-set_other w' (a + c) j x 0 (λ q. omega arith) ∙ l.before j lt;
      after = λ j lt. get_or-set_other w' (a + c) j x 0 (λ q. omega arith) ∙ l.after j (omega arith);
    }

-- what is read at the other part is what stood there
pub read_part : {w : List ℕ} {from m to n : ℕ} {f : ℕ → ℕ} {c : ℕ} {w' : List ℕ} → Apart w from m to n → Filled w to f c w' → c ≤ n → (k : ℕ) → k < m → at w' (from + k) ≡ at (part w from m) k
read_part {w} {from} {m} {to} {n} p l h k lt =
    ⊎_elim (λ q. l.before (from + k) (omega arith)) (λ q. l.after (from + k) (omega arith)) p.apart ∙ sym (part_at w from m k lt)

-- a loop's end
pub filled_laid : {w : List ℕ} {a : ℕ} {f : ℕ → ℕ} {c : ℕ} {w' : List ℕ} (t : List ℕ) (n : ℕ) → c ≡ n → Filled w a f c w' → ((k : ℕ) → k < n → f k ≡ at t k) → Laid w a t n w'
filled_laid {w} {a} {f} {c} {w'} t n e l h =
    record {
      len = l.len;
      here = λ k lt. l.here k (omega arith) ∙ h k lt;
      before = l.before;
      after = λ j lt. l.after j (omega arith);
    }

pub filled_all : {w : List ℕ} {a : ℕ} {f : ℕ → ℕ} {c : ℕ} {w' : List ℕ} (n : ℕ) → c ≡ n → Filled w a f c w' → Laid w a (tabulate n f) n w'
filled_all {w} {a} {f} n e l = filled_laid (tabulate n f) n e l (λ k lt. sym (at-tabulate n f k lt))

-- a table that is equal at each cell
pub laid_same : {w : List ℕ} {a : ℕ} {t : List ℕ} {n : ℕ} {w' : List ℕ} (u : List ℕ) → Laid w a t n w' → ((k : ℕ) → k < n → at t k ≡ at u k) → Laid w a u n w'
laid_same u l e = record { len = l.len; here = λ k h. l.here k h ∙ e k h; before = l.before; after = l.after }

pub laid_as : {w : List ℕ} {a : ℕ} {t : List ℕ} {n : ℕ} {w' u : List ℕ} → t ≡ u → Laid w a t n w' → Laid w a u n w'
laid_as {w} {a} {t} {n} {w'} e l = subst (λ (v : List ℕ). Laid w a v n w') e l

pub laid_self : (w : List ℕ) (a n : ℕ) → Laid w a (part w a n) n w
laid_self w a n = record { len = refl; here = λ k h. sym (part_at w a n k h); before = λ j h. refl; after = λ j h. refl }

-- a table laid over another
pub laid_then : {w : List ℕ} {a : ℕ} {t : List ℕ} {n : ℕ} {w' u w'' : List ℕ} → Laid w a t n w' → Laid w' a u n w'' → Laid w a u n w''
laid_then l m = record { len = m.len ∙ l.len; here = m.here; before = λ j h. m.before j h ∙ l.before j h; after = λ j h. m.after j h ∙ l.after j h }

-- a table laid right behind another makes one of both
pub laid-append : {w : List ℕ} {a : ℕ} {t : List ℕ} {n : ℕ} {v : List ℕ} {b : ℕ} {u : List ℕ} {k : ℕ} {w' : List ℕ} → length t ≡ n → b ≡ a + n
    → Laid w a t n v → Laid v b u k w' → Laid w a (t ++ u) (n + k) w'
laid-append {w} {a} {t} {n} {v} {b} {u} {k} {w'} e f l m =
    record {
      len = m.len ∙ l.len;
      here = λ j h.
          by_order n j
          (λ le.
          let q : b + (j - n) ≡ a + j = omega arith in
          let p : length t + (j - n) ≡ j = omega arith in
          sym (ap (at w') q) ∙ m.here (j - n) (omega arith) ∙ sym (get_or-append-add t u (j - n) 0) ∙ ap (at (t ++ u)) p)
          (λ lt. m.before (a + j) (omega arith) ∙ l.here j lt ∙ sym (get_or-append t u 0 j (omega arith)));
      before = λ j h. m.before j (omega arith) ∙ l.before j h;
      after = λ j h. m.after j (omega arith) ∙ l.after j (omega arith);
    }

-- two buffers with the same bytes at a part hold the same table there
pub part_same : (w w' : List ℕ) (a n : ℕ) → a + n ≤ length w → length w' ≡ length w → ((k : ℕ) → k < n → at w' (a + k) ≡ at w (a + k)) → part w' a n ≡ part w a n
part_same w w' a n h e eq =
    let l : length (part w a n) ≡ n = part_length w a n h in
    let l' : length (part w' a n) ≡ n = part_length w' a n (omega arith) in
    ext_get_or 0 (part w' a n) (part w a n) (l' ∙ sym l) (λ k lt. let q : k < n = omega arith in part_at w' a n k q ∙ eq k q ∙ sym (part_at w a n k q))

-- a table that was laid is what stands there
pub laid-part : {w : List ℕ} {a : ℕ} {t : List ℕ} {n : ℕ} {w' : List ℕ} → Laid w a t n w' → a + n ≤ length w → length t ≡ n → part w' a n ≡ t
laid-part {w} {a} {t} {n} {w'} l h e =
    let m : length (part w' a n) ≡ n = part_length w' a n (let q = l.len in omega arith) in
    ext_get_or 0 (part w' a n) t (m ∙ sym e) (λ k lt. let q : k < n = omega arith in part_at w' a n k q ∙ l.here k q)

-- a table laid at the front is the first part of what stands there
pub laid-front : {w t : List ℕ} {n : ℕ} {w' : List ℕ} → Laid w 0 t n w' → n ≤ length w → length t ≡ n → w' ≡ t ++ drop n w
laid-front {w} {t} {n} {w'} l h e =
    let all : length (t ++ drop n w) ≡ length w = length-append t (drop n w) ∙ omega (arith, length-drop n w) in
    ext_get_or 0 w' (t ++ drop n w) (l.len ∙ sym all)
    (λ k lt.
    by_order n k
    (λ le.
    let q : length t + (k - n) ≡ k = omega arith in
    let r : n + (k - n) ≡ k = omega arith in
    l.after k (omega arith) ∙ sym (ap (at w) r) ∙ sym (get_or-drop n w (k - n) 0) ∙ sym (get_or-append-add t (drop n w) (k - n) 0) ∙ ap (at (t ++ drop n w)) q)
    (λ lk. sym (ap (at w') (zero-add k)) ∙ l.here k lk ∙ sym (get_or-append t (drop n w) 0 k (omega arith))))

-- a table that lies apart from it stays
pub laid-apart : {w : List ℕ} {from m to n : ℕ} {t w' : List ℕ} → Apart w from m to n → Laid w to t n w' → part w' from m ≡ part w from m
laid-apart {w} {from} {m} {to} {n} {t} {w'} p l =
    part_same w w' from m p.src l.len
    (λ k lt. ⊎_elim (λ q. l.before (from + k) (omega arith)) (λ q. l.after (from + k) (omega arith)) p.apart)
