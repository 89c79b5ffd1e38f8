-- Tables as functions of the cell, and tests of every cell.
use Prim.Native.Nat.{ℕ, zero, suc, ◌+◌, ◌≤◌, ◌<◌}
use mathlib.Core.Path.{◌≡◌, refl, sym, ◌∙◌, ap, ap₂, subst}
use mathlib.Core.Bool.{Bool, true, false, not, ◌&&◌}
use mathlib.Core.List.{List, [], ◌∷◌, map}
use mathlib.Core.Logic.{⊎_elim}
use native.Mathlib.Nat.{add-zero, zero-add, le_refl, not-suc-le-zero, le_of_suc-le-suc, eq-or-lt_of_le}
use native.Mathlib.Numerals.{add-one}
use native.Mathlib.Omega.{arith}
use lib.Dec.{T}
use lib.ListN.{length, get_or}
use Rattle.rules.specs.Bytes.{at, tabulate, tabulate_from, all, some}
use Rattle.laws.proofs.TestLaws.{and_l, and_r, and_i}

get_d_tab_from : (f : ℕ → ℕ) (n i c : ℕ) → c < n → get_or (tabulate_from f i n) c 0 ≡ f (i + c)
get_d_tab_from f zero i c h = absurd (not-suc-le-zero h)
get_d_tab_from f (suc n) i zero h = ap f (sym (add-zero i))
get_d_tab_from f (suc n) i (suc c) h = get_d_tab_from f n (suc i) c (le_of_suc-le-suc h) ∙ ap f (omega arith)

pub at-tabulate : (n : ℕ) (f : ℕ → ℕ) (c : ℕ) → c < n → at (tabulate n f) c ≡ f c
at-tabulate n f c h = get_d_tab_from f n 0 c h ∙ ap f (zero-add c)

-- a list put through a function, place by place
pub at_map : (f : ℕ → ℕ) (l : List ℕ) (i : ℕ) → i < length l → at (map f l) i ≡ f (at l i)
at_map f [] i h = absurd (not-suc-le-zero h)
at_map f (x ∷ l) zero h = refl
at_map f (x ∷ l) (suc i) h = at_map f l i (le_of_suc-le-suc h)

pub all-at : (n : ℕ) (p : ℕ → Bool) → T (all n p) → (c : ℕ) → c < n → T (p c)
all-at zero p h c lt = absurd (not-suc-le-zero lt)
all-at (suc n) p h c lt =
    ⊎_elim (λ e. subst (λ (k : ℕ). T (p k)) (sym e) (and_r (all n p) (p n) h))
    (λ l. all-at n p (and_l (all n p) (p n) h) c l)
    (eq-or-lt_of_le (le_of_suc-le-suc lt))

pub all_of : (n : ℕ) (p : ℕ → Bool) → ((c : ℕ) → c < n → T (p c)) → T (all n p)
all_of zero p h = tt
all_of (suc n) p h = and_i (all n p) (p n) (all_of n p (λ c lt. h c (omega arith))) (h n (le_refl _))

pub all_same : (n : ℕ) (p q : ℕ → Bool) → ((c : ℕ) → c < n → p c ≡ q c) → all n p ≡ all n q
all_same zero p q h = refl
all_same (suc n) p q h = ap₂ ◌&&◌ (all_same n p q (λ c lt. h c (omega arith))) (h n (le_refl _))

pub length-tabulate_from : (f : ℕ → ℕ) (i n : ℕ) → length (tabulate_from f i n) ≡ n
length-tabulate_from f i zero = refl
length-tabulate_from f i (suc n) = ap suc (length-tabulate_from f (suc i) n)

pub tabulate_from_below : (m : ℕ) (f : ℕ → ℕ) (i n : ℕ) → 0 < m → ((v : ℕ) → i ≤ v → v < i + n → f v < m) → (v : ℕ) → get_or (tabulate_from f i n) v 0 < m
tabulate_from_below m f i zero p h v = p
tabulate_from_below m f i (suc n) p h zero = h i (le_refl i) (omega arith)
tabulate_from_below m f i (suc n) p h (suc v) = tabulate_from_below m f (suc i) n p (λ w a b. h w (omega arith) (omega arith)) v

-- a loop over the cells that stops at the first that fails
pub all_more : (n : ℕ) (p : ℕ → Bool) → all n p ≡ true → p n ≡ true → all (n + 1) p ≡ true
all_more n p h g = rw (add-one n, h, g)

pub all_false : (n : ℕ) (p : ℕ → Bool) (c : ℕ) → c < n → p c ≡ false → all n p ≡ false
all_false zero p c h e = absurd (not-suc-le-zero h)
all_false (suc n) p c h e =
    ⊎_elim (λ q. subst (λ (b : Bool). all n p && b ≡ false) (sym (subst (λ (k : ℕ). p k ≡ false) q e)) (and_no (all n p)))
    (λ l. rw (all_false n p c l e))
    (eq-or-lt_of_le (le_of_suc-le-suc h))
  where
    and_no : (b : Bool) → b && false ≡ false
    and_no true = refl
    and_no false = refl

-- one that stops at the first that passes
pub some_true : (n : ℕ) (p : ℕ → Bool) (c : ℕ) → c < n → p c ≡ true → some n p ≡ true
some_true n p c h e = ap not (all_false n (λ i. not (p i)) c h (ap not e))

pub some_false : (n : ℕ) (p : ℕ → Bool) → all n (λ i. not (p i)) ≡ true → some n p ≡ false
some_false n p e = ap not e

-- where not every cell passes, one fails
pub all_fails : {P : Type 0} (n : ℕ) (p : ℕ → Bool) → all n p ≡ false → ((c : ℕ) → c < n → p c ≡ false → P) → P
all_fails zero p e f = absurd (subst T e tt)
all_fails {P} (suc n) p e f = go (all n p) (p n) refl refl (λ x. all_fails n p x (λ c h. f c (omega arith)))
  where
    go : (a b : Bool) → all n p ≡ a → p n ≡ b → (all n p ≡ false → P) → P
    go false b x y r = r x
    go true false x y r = f n (omega arith) y
    go true true x y r = absurd (subst T (sym (ap₂ ◌&&◌ x y) ∙ e) tt)

-- a list is the table of what stands at its places
tabulate_from_self : (f : ℕ → ℕ) (i : ℕ) (gs : List ℕ) → ((v : ℕ) → v < length gs → f (i + v) ≡ at gs v) → tabulate_from f i (length gs) ≡ gs
tabulate_from_self f i [] h = refl
tabulate_from_self f i (g ∷ gs) h =
    ap₂ (λ (x : ℕ) (l : List ℕ). x ∷ l) (ap f (sym (add-zero i)) ∙ h 0 (omega arith))
    (tabulate_from_self f (suc i) gs (λ v l. let e : suc i + v ≡ i + suc v = omega arith in ap f e ∙ h (suc v) (omega arith)))

pub tabulate_self : (f : ℕ → ℕ) (gs : List ℕ) → ((v : ℕ) → v < length gs → f v ≡ at gs v) → tabulate (length gs) f ≡ gs
tabulate_self f gs h = tabulate_from_self f 0 gs (λ v l. let z : 0 + v ≡ v = omega arith in ap f z ∙ h v l)

tabulate_from_same : (f g : ℕ → ℕ) (i n : ℕ) → ((c : ℕ) → c < i + n → f c ≡ g c) → tabulate_from f i n ≡ tabulate_from g i n
tabulate_from_same f g i zero h = refl
tabulate_from_same f g i (suc n) h = ap₂ (λ (x : ℕ) (l : List ℕ). x ∷ l) (h i (omega arith)) (tabulate_from_same f g (suc i) n (λ c l. h c (omega arith)))

pub tabulate-same : (n : ℕ) (f g : ℕ → ℕ) → ((c : ℕ) → c < n → f c ≡ g c) → tabulate n f ≡ tabulate n g
tabulate-same n f g h = tabulate_from_same f g 0 n (λ c l. h c (omega arith))
