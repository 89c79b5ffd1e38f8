-- Sets and places.
use Prim.Native.Nat.{ℕ, zero, suc, ◌+◌, ◌*◌, ◌/◌, ◌%◌, ◌^◌, ◌≤◌, ◌<◌}
use mathlib.Core.Path.{◌≡◌, refl, sym, ◌∙◌, ap, subst}
use mathlib.Core.Bool.{true, false}
use mathlib.Core.List.{List}
use native.Mathlib.Nat.{zero-add, zero-mul, pow-suc, le_refl, mod-lt}
use native.Mathlib.Omega.{arith}
use borrow.Author.Count.{below_more}
use lib.Bits.{bit_or, bit_and, or_disjoint}
use lib.Count.{ones, ones_step}
use lib.Dec.{T, eqb, eqb→eq}
use lib.ListN.{length, set, length-set}
use lib.Seq.{get_or-set_same, get_or-set_other, ext_get_or}
use Rattle.std.specs.Int.{bit_at}
use Rattle.std.proofs.lemmas.Nat.Bits.{and_pow}
use Rattle.rules.specs.Bytes.{pick}
use Rattle.rules.specs.Cell.{card, has, insert, singleton, without}
use Rattle.rules.specs.Stage.{members}
use Rattle.laws.proofs.CellLaws.{length_without}
use Rattle.laws.proofs.LoopLaws.{bit, insert-bit, without-card}
use Rattle.laws.proofs.NumberLaws.{has-bit}
use Rattle.laws.proofs.SetLaws.{has-none}
use Rattle.laws.proofs.TableLaws.{all-at}

-- the set of one condition
pub shift-singleton : (i : ℕ) → i < 8 → 1 * 2 ^ i % 256 ≡ singleton i
shift-singleton i h = eqb→eq (1 * 2 ^ i % 256) (singleton i) (all-at 8 (λ i. eqb (1 * 2 ^ i % 256) (singleton i)) tt i h)

bit-power : (i : ℕ) → bit i ≡ 2 ^ i
bit-power zero = refl
bit-power (suc i) = omega (arith, bit-power i, pow-suc 2 i)

-- a condition that a set does not have yet
no-bit : (d : ℕ) → d < 2 → (T (eqb d 1) → ⊥) → d ≡ 0
no-bit zero h n = refl
no-bit (suc zero) h n = absurd (n tt)
no-bit (suc (suc d)) h n = absurd (omega arith)

pub or-insert : (s i : ℕ) → (T (has s i) → ⊥) → bit_or s (singleton i) ≡ insert s i
or-insert s i n =
    let one : singleton i ≡ 2 ^ i = insert-bit 0 i (has-none i) ∙ zero-add (bit i) ∙ bit-power i in
    let none : bit_at s i ≡ 0 = no-bit (s / 2 ^ i % 2) (mod-lt (s / 2 ^ i) (omega arith)) (λ t. n (subst T (sym (has-bit s i)) t)) in
    let apart : bit_and s (2 ^ i) ≡ 0 = and_pow s i ∙ ap (λ (d : ℕ). d * 2 ^ i) none ∙ zero-mul (2 ^ i) in
    ap (bit_or s) one ∙ or_disjoint s (2 ^ i) apart ∙ ap (λ (x : ℕ). s + x) (sym (bit-power i)) ∙ sym (insert-bit s i n)

-- how many members a set has
pub ones-members : (n s : ℕ) → s < 2 ^ n → ones s ≡ members n s
unfolding ones
ones-members zero s h = let z : s ≡ 0 = omega arith in rw z refl
ones-members (suc n) s h =
    let half : s / 2 < 2 ^ n = omega (arith, pow-suc 2 n) in
    ones_step s ∙ ap (λ (m : ℕ). s % 2 + m) (ones-members n (s / 2) half)

pub members_le : (n s : ℕ) → members n s ≤ n
members_le zero s = omega arith
members_le (suc n) s = let h : s % 2 < 2 = mod-lt s (omega arith) in omega (arith, members_le n (s / 2))

-- the conditions of a set taken from the places below i
pub record Taken (t : ℕ) (ks : List ℕ) (i : ℕ) (left : List ℕ) : Type 0 where
  pub len : length left ≡ length ks
  pub done : (j : ℕ) → j < i → card left j ≡ pick (has t j) 1 (card ks j)
  pub rest : (j : ℕ) → i ≤ j → card left j ≡ card ks j

pub taken_skip : {t : ℕ} {ks : List ℕ} {i : ℕ} {left : List ℕ} → Taken t ks i left → has t i ≡ false → Taken t ks (i + 1) left
taken_skip {t} {ks} {i} {left} l e =
    record {
      len = l.len;
      done = below_more (λ j. card left j ≡ pick (has t j) 1 (card ks j)) i l.done (rw e (l.rest i (le_refl i)));
      rest = λ j h. l.rest j (omega arith);
    }

pub taken_more : {t : ℕ} {ks : List ℕ} {i : ℕ} {left : List ℕ} → Taken t ks i left → i < length ks → has t i ≡ true → Taken t ks (i + 1) (set left i 1)
taken_more {t} {ks} {i} {left} l h e =
    record {
      len = length-set left i 1 ∙ l.len;
      done =
          below_more (λ j. card (set left i 1) j ≡ pick (has t j) 1 (card ks j)) i
          (λ j lt. get_or-set_other left i j 1 1 (λ q. omega arith) ∙ l.done j lt)
          (rw e (get_or-set_same left i 1 1 (let q = l.len in omega arith)));
      rest = λ j lt. get_or-set_other left i j 1 1 (λ q. omega arith) ∙ l.rest j (omega arith);
    }

pub taken-all : {t : ℕ} {ks : List ℕ} {i : ℕ} {left : List ℕ} → Taken t ks i left → length ks ≤ i → left ≡ without t ks
taken-all {t} {ks} {i} {left} l h =
    ext_get_or 1 left (without t ks) (l.len ∙ sym (length_without t ks))
    (λ j lt. let q : j < length ks = let m = l.len in omega arith in l.done j (omega arith) ∙ sym (without-card t ks j q))
