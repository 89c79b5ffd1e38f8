-- A stage with one condition, or none: step 1 tries that one alone.
use Prim.Native.Nat.{ℕ, zero, suc, ◌+◌, ◌*◌, ◌≤◌, ◌<◌}
use mathlib.Core.Path.{◌≡◌, refl, sym, ◌∙◌, ap, ap₂, subst}
use mathlib.Core.Bool.{◌&&◌}
use mathlib.Core.Logic.{⊎_elim}
use mathlib.Core.List.{List, [], ◌∷◌}
use native.Mathlib.Nat.{le_antisymm, eq-or-lt_of_le}
use native.Mathlib.Omega.{arith}
use lib.Dec.{T, ltb}
use lib.ListN.{length}
use Rattle.rules.specs.Bytes.{numbers_from}
use Rattle.rules.specs.Cell.{Positive, present, width, lowest, step, singleton, without}
use Rattle.rules.specs.Stage.{Stage, outside, merged, fits, drop_one, drops, left}
use Rattle.laws.proofs.TestLaws.{and_l, by_equal, cond_ok, pick_ok}
use Rattle.laws.proofs.SetLaws.{singleton-has}
use Rattle.laws.proofs.CellLaws.{card-out, present_lt, not-above, sub-present}
use Rattle.laws.proofs.LowestLaws.{present-width, lowest-present, lowest-width}
use Rattle.laws.proofs.StageLaws.{drops-none, drops_shrunk}

-- the lowest condition's cells lie side by side
pub step-lowest : (ks : List ℕ) → Positive ks → step ks (lowest ks) ≡ 1
step-lowest [] p = refl
step-lowest (k ∷ ks) p =
    pick_ok (λ (i : ℕ). step (k ∷ ks) i ≡ 1) (ltb 1 k) 0 (suc (lowest ks)) (λ y. refl)
    (λ n. ap₂ (λ (a b : ℕ). a * b) (le_antisymm (not-above k n) p.0) (step-lowest ks p.1))

pub none_dropped : (x : Stage) → width x.ks ≡ 0 → left x ≡ x
none_dropped x e = drops-none x (λ i t f. omega (arith, present-width x.ks i t)) (numbers_from 0 (length x.ks))

-- a condition that is not there is not dropped
drop_gone : (i : ℕ) (x : Stage) → (T (present x.ks i) → ⊥) → drop_one i x ≡ x
drop_gone i x n =
    cond_ok (λ (y : Stage). y ≡ x) (present x.ks i && fits x.ks (merged i x)) (outside (singleton i) x (merged i x)) x
    (λ h. absurd (n (and_l (present x.ks i) (fits x.ks (merged i x)) h))) (λ h. refl)

drops_gone : (a n : ℕ) (x : Stage) → ((j : ℕ) → a ≤ j → T (present x.ks j) → ⊥) → drops (numbers_from a n) x ≡ x
drops_gone a zero x h = refl
drops_gone a (suc n) x h = ap (drops (numbers_from (suc a) n)) (drop_gone a x (h a (omega arith))) ∙ drops_gone (suc a) n x (λ j l. h j (omega arith))

-- i is the only condition that is there
module _ (i : ℕ) (x : Stage) (p : Positive x.ks) (only : (j : ℕ) → T (present x.ks j) → j ≡ i) where
  drops_only : (a n : ℕ) → a ≤ i → i < a + n → drops (numbers_from a n) x ≡ drop_one i x
  drops_only a zero l g = absurd (omega arith)
  drops_only a (suc n) l g =
      ⊎_elim here
      (λ lt.
      ap (drops (numbers_from (suc a) n)) (drop_gone a x (λ t. let e = only a t in omega arith))
      ∙ drops_only (suc a) n (omega arith) (omega arith))
      (eq-or-lt_of_le l)
    where
      here : a ≡ i → drops (numbers_from (suc a) n) (drop_one a x) ≡ drop_one i x
      here e =
          drops_gone (suc a) n (drop_one a x)
          (λ j le t. let q = only j (sub-present (drop_one a x).ks x.ks (drops_shrunk (a ∷ []) x p).sub j t) in omega arith)
          ∙ ap (λ (j : ℕ). drop_one j x) e

pub only_lowest : (ks : List ℕ) → Positive ks → width ks ≡ 1 → (j : ℕ) → T (present ks j) → j ≡ lowest ks
only_lowest ks p e j t =
    by_equal j (lowest ks) (λ q. q)
    (λ ne.
    let b = without (singleton (lowest ks)) ks in
    let there : T (present b j) = subst (λ (k : ℕ). T (ltb 1 k)) (sym (card-out (singleton (lowest ks)) ks j (λ q. ne (singleton-has (lowest ks) j q)))) t in
    absurd (omega (arith, present-width b j there, lowest-width ks p (omega arith))))

pub one_dropped : (x : Stage) → Positive x.ks → width x.ks ≡ 1 → left x ≡ drop_one (lowest x.ks) x
one_dropped x p e =
    let ks = x.ks in
    drops_only (lowest ks) x p (only_lowest ks p e) 0 (length ks) (omega arith)
    (let l = present_lt ks (lowest ks) (lowest-present ks p (omega arith)) in omega arith)
