-- Grades that are lent, or stand in the slice of the answers.
use Prim.Native.Nat.{ℕ, zero, suc, ◌+◌, ◌*◌, ◌≤◌, ◌<◌}
use mathlib.Core.Path.{◌≡◌, refl, sym, ◌∙◌, ap, subst}
use mathlib.Core.Bool.{Bool}
use mathlib.Core.List.{List, [], ◌∷◌, ◌++◌}
use mathlib.Core.Logic.{⊎_elim, inl, inr}
use native.Mathlib.Nat.{add-zero}
use native.Mathlib.Omega.{arith}
use lib.ListN.{length}
use Rattle.std.specs.List.{fold, range_with_len}
use Rattle.rules.specs.Bytes.{at}
use Rattle.tables.specs.Part.{part, Laid}
use Rattle.tables.specs.Line.{best, line_best}
use Rattle.tables.proofs.LendLaws.{parts_joined}
use Rattle.tables.proofs.LineLaws.{best-more}
use Rattle.rows.specs.Grades.{source, Aside, Room, Reads}

-- which slice it is, by the length of the lent one
pub here : (lent w : List ℕ) → length lent ≡ 0 → source lent w ≡ w
here [] w e = refl
here (g ∷ gs) w e = absurd (omega arith)

pub there : (lent w : List ℕ) → (length lent ≡ 0 → ⊥) → source lent w ≡ lent
there [] w ne = absurd (ne refl)
there (g ∷ gs) w ne = refl

pub source-length : (lent w w' : List ℕ) → length w' ≡ length w → length (source lent w') ≡ length (source lent w)
source-length [] w w' e = e
source-length (g ∷ gs) w w' e = refl

-- what is made of the grades, by where they are
module _ (lent w : List ℕ) (from to n : ℕ) {v w' : List ℕ} (e : source lent w ≡ v) where
  pub taken : Laid w to (part v from n) n w' → Laid w to (part (source lent w) from n) n w'
  taken l = subst (λ (x : List ℕ). Laid w to (part x from n) n w') (sym e) l

-- grades that are not written yet are as they were
pub unread : {lent w : List ℕ} {from m to n : ℕ} (w' : List ℕ) → Room lent w from m to n → ((j : ℕ) → j < to → at w' j ≡ at w j) → ((j : ℕ) → to + n ≤ j → at w' j ≡ at w j)
    → (k : ℕ) → k < m → (source lent w ≡ w → from ≡ to → at w' (to + k) ≡ at w (to + k)) → at (source lent w') (from + k) ≡ at (source lent w) (from + k)
unread {lent} {w} {from} {m} {to} {n} w' r before after k lt same = go lent r.aside same
  where
    go : (l : List ℕ) → Aside l from m to n → (source l w ≡ w → from ≡ to → at w' (to + k) ≡ at w (to + k)) → at (source l w') (from + k) ≡ at (source l w) (from + k)
    go [] a same =
        ⊎_elim (λ e. subst (λ (x : ℕ). at w' (x + k) ≡ at w (x + k)) (sym e) (same refl e))
        (λ q. ⊎_elim (λ lo. before (from + k) (omega arith)) (λ hi. after (from + k) (omega arith)) q) a
    go (g ∷ gs) a same = refl

-- the same room in a slice as long
pub room-same : {lent w : List ℕ} {from m to n : ℕ} (w' : List ℕ) → length w' ≡ length w → Room lent w from m to n → Room lent w' from m to n
room-same {lent} {w} w' e r =
    record { src = let i = r.src in omega (arith, source-length lent w w' e); dst = let i = r.dst in omega arith; aside = r.aside }

-- k grades d cells on, and their answers
pub reads_on : {lent w : List ℕ} {from to n : ℕ} (d k : ℕ) → d + k ≤ n → Reads lent w from to n → Reads lent w (from + d) (to + d) k
reads_on {lent} {w} {from} {to} {n} d k h r =
    record { src = let i = r.src in omega arith; dst = let i = r.dst in omega arith; aside = go lent r.aside }
  where
    go : (l : List ℕ) → Aside l from n to n → Aside l (from + d) k (to + d) k
    go [] a = ⊎_elim (λ e. inl (ap (λ (x : ℕ). x + d) e)) (λ q. inr (⊎_elim (λ lo. inl (omega arith)) (λ hi. inr (omega arith)) q)) a
    go (g ∷ gs) a = tt

-- fewer grades, and fewer answers, from the same bytes on
pub fewer : {lent w : List ℕ} {from m to n : ℕ} (k l : ℕ) → k ≤ m → l ≤ n → Room lent w from m to n → Room lent w from k to l
fewer {lent} {w} {from} {m} {to} {n} k l h g r =
    record { src = let i = r.src in omega arith; dst = let i = r.dst in omega arith; aside = go lent r.aside }
  where
    go : (x : List ℕ) → Aside x from m to n → Aside x from k to l
    go [] a = ⊎_elim (λ e. inl e) (λ q. inr (⊎_elim (λ lo. inl (omega arith)) (λ hi. inr (omega arith)) q)) a
    go (y ∷ ys) a = tt

-- the extreme along a line, from its first m cells on
pub fold-line : (greatest : Bool) (w : List ℕ) (a step m n x : ℕ) → x ≡ line_best greatest w a step m
    → fold (λ y v. best greatest y (at w (a + step * v))) x (range_with_len m n) ≡ line_best greatest w a step (m + n)
fold-line greatest w a step m zero x e = e ∙ ap (line_best greatest w a step) (sym (add-zero m))
fold-line greatest w a step m (suc n) x e =
    let q : m + 1 + n ≡ m + suc n = omega arith in
    fold-line greatest w a step (m + 1) n _ (best-more greatest w a step m x e) ∙ ap (line_best greatest w a step) q

-- what the row is, where the slice of the answers was split in three
module _ (lent w low rest cells high : List ℕ) (to n : ℕ) (e : w ≡ low ++ rest) (la : length low ≡ to) (f : rest ≡ cells ++ high) (ln : length cells ≡ n) where
  pub row-part : (r : List ℕ) (from : ℕ) → ((v : List ℕ) → length v ≡ n → r ≡ part (source lent (low ++ (v ++ high))) from n) → r ≡ part (source lent w) from n
  row-part r from h = h cells ln ∙ ap (λ (x : List ℕ). part (source lent x) from n) (sym (parts_joined w low rest cells high to n e la f ln))
