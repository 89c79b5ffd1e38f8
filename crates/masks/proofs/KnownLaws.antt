-- A stage's masks in its buffer: where the buffer changes behind them, and for the stages that a split starts.
use Prim.Native.Nat.{ℕ, ◌*◌, ◌<◌}
use mathlib.Core.Path.{◌≡◌, sym, ◌∙◌, ap, ap₂, subst}
use mathlib.Core.List.{List}
use native.Mathlib.Omega.{arith}
use Rattle.rules.specs.Cell.{Positive, cells, card, singleton, without}
use Rattle.rules.specs.Limits.{Limits, limits_of, each}
use Rattle.rules.specs.declared.Gate.{Gate}
use Rattle.rules.specs.declared.Gate.TheVariants.{Min, Max}
use Rattle.tables.specs.Part.{part}
use Rattle.masks.specs.Masks.{Masked, Beside, Known, mask_part}
use Rattle.masks.proofs.CofactorLaws.{cofactored, masked_cofactor, masked_beside}

-- the limits of v are those of w put through f, and its masks are theirs
known_by : {m : ℕ} {b v : List ℕ} (ks w : List ℕ) (f : List ℕ → List ℕ)
    → ((q : ℕ) → q < 2 → part v (q * cells b) (cells b) ≡ f (part w (q * cells ks) (cells ks)))
    → ((op : Gate) → Masked op b m (each f (limits_of (part w 0 (cells ks)) (part w (cells ks) (cells ks)))) (part v (mask_part op (cells b)) (cells b)))
    → Known m b v
known_by {m} {b} {v} ks w f h masks =
    let lower = table 0 0 0 (omega arith) (omega arith) (omega arith) in
    let upper = table 1 (cells b) (cells ks) (omega arith) (omega arith) (omega arith) in
    record {
      masks = λ op.
          subst (λ (l : Limits). Masked op b m l (part v (mask_part op (cells b)) (cells b))) (sym (ap₂ limits_of lower upper)) (masks op);
    }
  where
    table : (q a d : ℕ) → q < 2 → q * cells b ≡ a → q * cells ks ≡ d → part v a (cells b) ≡ f (part w d (cells ks))
    table q a d lt e g = ap (λ (x : ℕ). part v x (cells b)) (sym e) ∙ h q lt ∙ ap (λ (x : ℕ). f (part w x (cells ks))) g

-- a stage that a split on a starts knows its masks, if the four tables stand in front of its buffer v, the masks with more of a or less
pub known_split : {m : ℕ} {ks w : List ℕ} (a k : ℕ) → Positive ks → k < card ks a → (v : List ℕ)
    → let b = without (singleton a) ks in
    ((q : ℕ) → q < 2 → part v (q * cells b) (cells b) ≡ cofactored ks a k (part w (q * cells ks) (cells ks)))
    → ((q : ℕ) → q < 4 → Beside a (cells b) (cofactored ks a k (part w (q * cells ks) (cells ks))) (part v (q * cells b) (cells b)))
    → Known m ks w → Known m b v
known_split {m} {ks} {w} a k p hk v limits masks g =
    known_by ks w (cofactored ks a k) limits
    (λ op. masked_beside ks a k p hk op m _ _ _ (beside op) (masked_cofactor ks a k p hk op m _ _ (g.masks op)))
  where
    beside : (op : Gate) → let b = without (singleton a) ks in Beside a (cells b) (cofactored ks a k (part w (mask_part op (cells ks)) (cells ks))) (part v (mask_part op (cells b)) (cells b))
    beside Max = masks 2 (omega arith)
    beside Min = masks 3 (omega arith)
