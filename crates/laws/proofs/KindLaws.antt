-- The record that sixteen bytes are, by the byte of its kind.
use Prim.Native.Nat.{ℕ, ◌+◌}
use mathlib.Core.Path.{◌≡◌, refl}
use mathlib.Core.Bool.{Bool, true, false, cond}
use mathlib.Core.List.{List}
use native.Mathlib.Omega.{arith}
use borrow.Author.Tests.{eq-eqb, ne_eqb}
use lib.Dec.{eqb}
use Rattle.rules.specs.declared.Gate.TheVariants.{Min, Max}
use Rattle.rules.specs.Bytes.{at, tabulate, word}
use Rattle.rules.specs.Cell.{card}
use Rattle.rules.specs.Network.{constant, literal, gate, record_of}

module _ (ks r : List ℕ) where
  by_kind : (a b c : Bool) → eqb (at r 0) 0 ≡ a → eqb (at r 0) 1 ≡ b → eqb (at r 0) 2 ≡ c
      → record_of ks r
      ≡ cond a (constant (at r 1))
      (cond b (literal (at r 1) (tabulate (card ks (at r 1)) (λ v. at r (8 + v))))
      (cond c (gate Min (word r 4) (word r 6))
      (gate Max (word r 4) (word r 6))))
  by_kind a b c p q s = rw (p, q, s)

  pub kind_constant : at r 0 ≡ 0 → record_of ks r ≡ constant (at r 1)
  kind_constant e = by_kind true _ _ (eq-eqb (at r 0) 0 e) refl refl

  pub kind_literal : at r 0 ≡ 1 → record_of ks r ≡ literal (at r 1) (tabulate (card ks (at r 1)) (λ v. at r (8 + v)))
  kind_literal e = by_kind false true _ (ne_eqb (at r 0) 0 (λ z. omega arith)) (eq-eqb (at r 0) 1 e) refl

  pub kind_min : at r 0 ≡ 2 → record_of ks r ≡ gate Min (word r 4) (word r 6)
  kind_min e = by_kind false false true (ne_eqb (at r 0) 0 (λ z. omega arith)) (ne_eqb (at r 0) 1 (λ z. omega arith)) (eq-eqb (at r 0) 2 e)

  pub kind_max : (at r 0 ≡ 0 → ⊥) → (at r 0 ≡ 1 → ⊥) → (at r 0 ≡ 2 → ⊥) → record_of ks r ≡ gate Max (word r 4) (word r 6)
  kind_max p q s = by_kind false false false (ne_eqb (at r 0) 0 p) (ne_eqb (at r 0) 1 q) (ne_eqb (at r 0) 2 s)

  pub kind_three : at r 0 ≡ 3 → record_of ks r ≡ gate Max (word r 4) (word r 6)
  kind_three e = kind_max (λ z. omega arith) (λ z. omega arith) (λ z. omega arith)
