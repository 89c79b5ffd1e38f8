-- Masks that were made are a stage's masks, for either gate.
use Prim.Native.Nat.{ℕ, ◌≤◌}
use mathlib.Core.Path.{◌≡◌, sym, ap₂, subst}
use mathlib.Core.List.{List}
use native.Mathlib.Omega.{arith}
use Rattle.rules.specs.Cell.{cells}
use Rattle.rules.specs.Limits.{Limits, limits_of}
use Rattle.rules.specs.declared.Gate.{Gate}
use Rattle.rules.specs.declared.Gate.TheVariants.{Min, Max}
use Rattle.laws.proofs.GateLaws.{Good}
use Rattle.tables.specs.Part.{part, stage_at}
use Rattle.masks.specs.Masks.{Masked, mask_part, Known}
use Rattle.masks.proofs.ExchangeLaws.{masked_min}
use Rattle.mask_making.specs.Making.{Space, Made}
use Rattle.mask_making.proofs.KeptLaws.{kept-part}

pub made_known : {w ks : List ℕ} {n : ℕ} {w' : List ℕ} (m : ℕ) → Space w ks n → Good ks m (stage_at ks w 0 (cells ks)).limits
    → Made w ks n w' → Known m ks w'
made_known {w} {ks} {n} {w'} m s g d = known (subst (Space w ks) s.own s) (subst (λ (k : ℕ). Made w ks k w') s.own d)
  where
    known : Space w ks (cells ks) → Made w ks (cells ks) w' → Known m ks w'
    known p q =
        record { masks = λ op. subst (λ (l : Limits). Masked op ks m l (part w' (mask_part op (cells ks)) (cells ks))) (sym same) (go op) }
      where
        kept : (a : ℕ) → a ≤ cells ks → part w' a (cells ks) ≡ part w a (cells ks)
        kept = kept-part p (record { len = q.len; limits = q.limits })

        same : (stage_at ks w' 0 (cells ks)).limits ≡ (stage_at ks w 0 (cells ks)).limits
        same = ap₂ limits_of (kept 0 (omega arith)) (kept (cells ks) (omega arith))

        go : (op : Gate) → Masked op ks m (stage_at ks w 0 (cells ks)).limits (part w' (mask_part op (cells ks)) (cells ks))
        go Max = q.first
        go Min = masked_min ks m (stage_at ks w 0 (cells ks)).limits (part w' (mask_part Min (cells ks)) (cells ks)) g q.second
