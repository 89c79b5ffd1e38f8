-- What is made where it is wanted, and what is not.
use Prim.Native.Nat.{ℕ}
use mathlib.Core.Path.{◌≡◌, refl, sym, ◌∙◌, ap, subst}
use mathlib.Core.Bool.{Bool, true, false}
use mathlib.Core.List.{List}
use lib.Dec.{T}
use lib.ListN.{length}
use Rattle.stage_steps.specs.Wanting.{Wanted}

differ : {b : Bool} → b ≡ true → b ≡ false → ⊥
differ e f = subst T (sym e ∙ f) tt

module _ {want : Bool} {made : List ℕ → Type 0} {w w' : List ℕ} where
  pub wanted-on : want ≡ true → made w' → Wanted want made w w'
  wanted-on e p = record { on = λ h. p; off = λ h. absurd (differ e h) }

  -- a fact of both ways
  pub wanted-both : {P : Type 0} → Wanted want made w w' → (made w' → P) → (w' ≡ w → P) → P
  wanted-both {P} h f g = go want refl
    where
      go : (b : Bool) → want ≡ b → P
      go true e = f (h.on e)
      go false e = g (h.off e)

  pub wanted-length : Wanted want made w w' → (made w' → length w' ≡ length w) → length w' ≡ length w
  wanted-length h f = wanted-both h f (ap length)

pub wanted-off : {want : Bool} {made : List ℕ → Type 0} {w : List ℕ} → want ≡ false → Wanted want made w w
wanted-off e = record { on = λ h. absurd (differ h e); off = λ h. refl }
