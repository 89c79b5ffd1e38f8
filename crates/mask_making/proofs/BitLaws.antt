-- Bits taken from a mask one after the other: each condition's is there until its turn, and then stays where the cell refuses it.
use Prim.Native.Nat.{ℕ, zero, suc, ◌+◌, ◌-◌, ◌*◌, ◌/◌, ◌%◌, ◌≤◌, ◌<◌}
use mathlib.Core.Path.{◌≡◌, refl, sym, ◌∙◌, ap, subst}
use mathlib.Core.Bool.{Bool, true, false}
use mathlib.Core.Logic.{⊎_elim}
use native.Mathlib.Nat.{mod-lt, mod-add-div}
use native.Mathlib.Omega.{arith}
use borrow.Author.Count.{below_more}
use lib.Dec.{T, eqb, eqb→eq}
use Rattle.rules.specs.Cell.{has, insert, singleton}
use Rattle.laws.proofs.LoopLaws.{bit, insert-bit}
use Rattle.laws.proofs.SetLaws.{has_keep, has-none, insert-has}
use Rattle.laws.proofs.TableLaws.{all-at}
use Rattle.laws.proofs.TestLaws.{passed, failed, same_test}
use Rattle.laws.proofs.UnionLaws.{digit_mod, digit_div}
use Rattle.mask_making.specs.Marking.{less}

-- a set has at least the bit of each of its members, and without it no longer that member
taken : (i s : ℕ) → T (has s i) → (bit i ≤ s) × (T (has (s - bit i) i) → ⊥)
taken zero s h =
    let odd : s % 2 ≡ 1 = eqb→eq (s % 2) 1 h in
    let e : s - 1 ≡ 0 + 2 * (s / 2) = omega (arith, mod-add-div s 2) in
    (omega (arith, mod-add-div s 2), λ t. subst (λ (x : ℕ). T (eqb x 1)) (ap (λ (x : ℕ). x % 2) e ∙ digit_mod 2 0 (s / 2) (omega arith)) t)
taken (suc i) s h =
    let r = taken i (s / 2) h in
    let le = r.0 in
    let e : s - 2 * bit i ≡ s % 2 + 2 * (s / 2 - bit i) = omega (arith, mod-add-div s 2) in
    let q : (s - 2 * bit i) / 2 ≡ s / 2 - bit i = ap (λ (x : ℕ). x / 2) e ∙ digit_div 2 (s % 2) (s / 2 - bit i) (mod-lt s (omega arith)) in
    (omega (arith, mod-add-div s 2), λ t. r.1 (subst (λ (x : ℕ). T (has x i)) q t))

singleton-bit : (i : ℕ) → singleton i ≡ bit i
singleton-bit i = omega (arith, insert-bit 0 i (has-none i))

module _ (s i : ℕ) (h : T (has s i)) where
  pub bit_in : singleton i ≤ s
  bit_in = omega (arith, singleton-bit i, (taken i s h).0)

  gone : T (has (s - singleton i) i) → ⊥
  gone t = (taken i s h).1 (subst (λ (x : ℕ). T (has (s - x) i)) (singleton-bit i) t)

  -- its other members stay
  others : (j : ℕ) → (j ≡ i → ⊥) → has (s - singleton i) j ≡ has s j
  others j ne =
      let r = s - singleton i in
      let back : insert r i ≡ s = omega (arith, insert-bit r i gone, singleton-bit i, bit_in) in
      let same : has (insert r i) j ≡ has r j =
      same_test _ _ (λ t. ⊎_elim (λ e. absurd (ne e)) (λ x. x) (insert-has r i j t)) (λ t. has_keep r i j t) in
      sym same ∙ ap (λ (x : ℕ). has x j) back

-- a mask whose bits below i say, of the conditions that count, what p says of them. The bits from i on are all there
pub record Turn (counts p : ℕ → Bool) (i s : ℕ) : Type 0 where
  pub is : (j : ℕ) → j < i → T (counts j) → has s j ≡ p j
  pub full : (j : ℕ) → i ≤ j → j < 8 → T (has s j)

pub turn-none : (counts p : ℕ → Bool) → Turn counts p 0 255
turn-none counts p = record { is = λ j h. absurd (omega arith); full = λ j le h. all-at 8 (has 255) tt j h }

module _ {counts p : ℕ → Bool} {i s : ℕ} (d : Turn counts p i s) where
  pub turn-bit : i < 8 → singleton i ≤ s
  turn-bit h = bit_in s i (d.full i (omega arith) h)

  -- a condition that does not count
  pub turn_skip : counts i ≡ false → Turn counts p (i + 1) s
  turn_skip e =
      record {
        is = below_more (λ j. T (counts j) → has s j ≡ p j) i d.is (λ t. absurd (subst T e t));
        full = λ j le h. d.full j (omega arith) h;
      }

  -- one that does
  pub turn_more : i < 8 → Turn counts p (i + 1) (less (p i) (singleton i) s)
  turn_more h = go (p i) refl
    where
      there : T (has s i)
      there = d.full i (omega arith) h

      go : (b : Bool) → p i ≡ b → Turn counts p (i + 1) (less b (singleton i) s)
      go true e =
          let z : s - 0 ≡ s = omega arith in
          subst (Turn counts p (i + 1)) (sym z)
          (record {
            is = below_more (λ j. T (counts j) → has s j ≡ p j) i d.is (λ t. passed (has s i) there ∙ sym e);
            full = λ j le l. d.full j (omega arith) l;
          })
      go false e =
          record {
            is =
                below_more (λ j. T (counts j) → has (s - singleton i) j ≡ p j) i
                (λ j l t. others s i there j (λ q. omega arith) ∙ d.is j l t)
                (λ t. failed (has (s - singleton i) i) (gone s i there) ∙ sym e);
            full = λ j le l. subst T (sym (others s i there j (λ q. omega arith))) (d.full j (omega arith) l);
          }
