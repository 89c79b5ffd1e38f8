-- Tables that stand in a part, and stay there while others are written.
use Prim.Native.Nat.{ℕ, ◌+◌, ◌≤◌, ◌<◌}
use mathlib.Core.Path.{◌≡◌, sym, ◌∙◌, ap, subst}
use mathlib.Core.List.{List}
use native.Mathlib.Nat.{zero-add}
use native.Mathlib.Omega.{arith}
use lib.ListN.{length}
use lib.Seq.{ext_get_or}
use Rattle.rules.specs.Bytes.{at}
use Rattle.tables.specs.Part.{part, Laid}
use Rattle.tables.proofs.PartLaws.{part_at, part_length, laid_same}
use Rattle.join_tables.specs.Parts.{Holds, Within}

-- the same offset, written otherwise
pub holds_at : {a b : ℕ} {w t : List ℕ} {n : ℕ} → a ≡ b → Holds w a t n → Holds w b t n
holds_at {a} {b} {w} {t} {n} e h = subst (λ (i : ℕ). Holds w i t n) e h

-- a table that was laid stands there, and the bytes around it stay
pub laid-holds : {w : List ℕ} {a : ℕ} {t : List ℕ} {n : ℕ} {w' : List ℕ} → Laid w a t n w' → Holds w' a t n
laid-holds l = record { here = l.here }

pub laid-within : {w : List ℕ} {a : ℕ} {t : List ℕ} {n : ℕ} {w' : List ℕ} → Laid w a t n w' → Within w a (a + n) w'
laid-within l = record { len = l.len; before = l.before; after = l.after }

pub within_then : {w v w' : List ℕ} {a b c d : ℕ} (lo hi : ℕ) → Within w a b v → Within v c d w' → lo ≤ a → lo ≤ c → b ≤ hi → d ≤ hi → Within w lo hi w'
within_then lo hi p q la lc lb ld =
    record {
      len = q.len ∙ p.len;
      before = λ j h. q.before j (omega arith) ∙ p.before j (omega arith);
      after = λ j h. q.after j (omega arith) ∙ p.after j (omega arith);
    }

-- a table from the front of another buffer
pub loaded : {w : List ℕ} {a : ℕ} {x : List ℕ} {n : ℕ} {w' : List ℕ} → Laid w a (part x 0 n) n w' → Laid w a x n w'
loaded {x = x} {n = n} l = laid_same x l (λ c lt. part_at x 0 n c lt ∙ ap (at x) (zero-add c))

-- a table below what is written, and one behind it
pub stays-below : {w w' t : List ℕ} {lo hi a n : ℕ} → Within w lo hi w' → a + n ≤ lo → Holds w a t n → Holds w' a t n
stays-below p le h = record { here = λ c lt. p.before _ (omega arith) ∙ h.here c lt }

pub stays_behind : {w w' t : List ℕ} {lo hi a n : ℕ} → Within w lo hi w' → hi ≤ a → Holds w a t n → Holds w' a t n
stays_behind p le h = record { here = λ c lt. p.after _ (omega arith) ∙ h.here c lt }

-- as a list
pub holds-part : {w t : List ℕ} {a n : ℕ} → Holds w a t n → a + n ≤ length w → length t ≡ n → part w a n ≡ t
holds-part {w} {t} {a} {n} h le e =
    let q : length (part w a n) ≡ n = part_length w a n le in
    ext_get_or 0 (part w a n) t (q ∙ sym e) (λ k lt. let r : k < n = omega arith in part_at w a n k r ∙ h.here k r)
