-- What stays while masks are marked.
use Prim.Native.Nat.{ℕ, ◌+◌, ◌≤◌}
use mathlib.Core.Path.{◌≡◌, refl, ◌∙◌}
use mathlib.Core.List.{List}
use native.Mathlib.Omega.{arith}
use lib.ListN.{length}
use Rattle.rules.specs.Bytes.{at}
use Rattle.tables.specs.Part.{part}
use Rattle.tables.proofs.PartLaws.{part_same}
use Rattle.mask_making.specs.Making.{Space}
use Rattle.mask_making.specs.Marking.{Holds, Kept}

-- a byte
pub holds_same : {w : List ℕ} {j b : ℕ} (w' : List ℕ) → Holds w j b → length w' ≡ length w → at w' j ≡ at w j → Holds w' j b
holds_same w' h e q = let p = h.place in let l = h.least in record { place = omega arith; least = omega arith }

-- the limits
pub kept_self : (w : List ℕ) (n : ℕ) → Kept w n w
kept_self w n = record { len = refl; limits = λ j h. refl }

pub kept_then : {w : List ℕ} {n : ℕ} {w' w'' : List ℕ} → Kept w n w' → Kept w' n w'' → Kept w n w''
kept_then k l = record { len = l.len ∙ k.len; limits = λ j h. l.limits j h ∙ k.limits j h }

module _ {w ks : List ℕ} {n : ℕ} (s : Space w ks n) {w' : List ℕ} (k : Kept w n w') where
  pub kept-space : Space w' ks n
  kept-space =
      record {
        shaped = s.shaped;
        own = s.own;
        room = let r = s.room in let e = k.len in omega arith;
        ordered = λ c h. omega (arith, s.ordered c h, k.limits c (omega arith), k.limits (n + c) (omega arith));
      }

  pub kept-part : (a : ℕ) → a ≤ n → part w' a n ≡ part w a n
  kept-part a h = let r = s.room in part_same w w' a n (omega arith) k.len (λ x lt. k.limits (a + x) (omega arith))
