-- A stage whose masks are not known.
use Prim.Native.Nat.{ℕ}
use mathlib.Core.Path.{◌≡◌, sym, subst}
use mathlib.Core.Bool.{Bool, false}
use mathlib.Core.List.{List}
use Rattle.rules.specs.declared.Settings.{Settings}
use Rattle.stages.specs.Staging.{Starts}

pub starts_unmasked : {how : Settings} {m : ℕ} {ks : List ℕ} {c : ℕ} {known may : Bool} {w : List ℕ} {r : ℕ} → known ≡ false → Starts how m ks c false may w r
    → Starts how m ks c known may w r
starts_unmasked {how} {m} {ks} {c} {known} {may} {w} {r} e = subst (λ (q : Bool). Starts how m ks c q may w r) (sym e)
