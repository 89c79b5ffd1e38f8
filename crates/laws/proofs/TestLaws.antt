-- Tests: that they pass, conjunctions, choices by a test, cases on a test.
use Prim.Native.Nat.{ℕ, ◌≤◌, ◌<◌}
use mathlib.Core.Path.{◌≡◌, refl, sym, ap, subst}
use mathlib.Core.Bool.{Bool, true, false, cond, ◌&&◌}
use borrow.Author.Tests.{leb-true, leb-false, eqb-true, eqb-false}
use lib.Dec.{T, leb, eqb}
use Rattle.rules.specs.Bytes.{pick}

pub passes : {b : Bool} → b ≡ true → T b
passes e = subst T (sym e) tt

pub passed : (b : Bool) → T b → b ≡ true
passed true h = refl
passed false h = absurd h

pub failed : (b : Bool) → (T b → ⊥) → b ≡ false
failed true n = absurd (n tt)
failed false n = refl

-- two tests that pass alike are one
pub same_test : (a b : Bool) → (T a → T b) → (T b → T a) → a ≡ b
same_test true true f g = refl
same_test true false f g = absurd (f tt)
same_test false true f g = absurd (g tt)
same_test false false f g = refl

-- conjunctions
pub and_l : (a b : Bool) → T (a && b) → T a
and_l true b h = tt
and_l false b h = h

pub and_r : (a b : Bool) → T (a && b) → T b
and_r true b h = h
and_r false b h = absurd h

pub and_i : (a b : Bool) → T a → T b → T (a && b)
and_i true b x y = y
and_i false b x y = x

pub and_both : {a b : Bool} → a ≡ true → b ≡ true → (a && b) ≡ true
and_both p q = cc

pub and_pass : {a : Bool} (b : Bool) → a ≡ true → (a && b) ≡ b
and_pass b p = ap (λ (a : Bool). a && b) p

pub and_left : {a : Bool} (b : Bool) → a ≡ false → (a && b) ≡ false
and_left b p = ap (λ (a : Bool). a && b) p

pub and_right : (a : Bool) {b : Bool} → b ≡ false → (a && b) ≡ false
and_right true p = p
and_right false p = refl

pub and_true : (b : Bool) → b ≡ b && true
and_true true = refl
and_true false = refl

pub pick_true : (b : Bool) (x y : ℕ) → T b → pick b x y ≡ x
pick_true true x y h = refl
pick_true false x y h = absurd h

-- a choice by a test keeps a property that both sides have
pub cond_ok : {A : Type 0} (Q : A → Type 0) (b : Bool) (x y : A) → (T b → Q x) → ((T b → ⊥) → Q y) → Q (cond b x y)
cond_ok Q true x y f g = f tt
cond_ok Q false x y f g = g (λ n. n)

pub pick_ok : (Q : ℕ → Type 0) (b : Bool) (x y : ℕ) → (T b → Q x) → ((T b → ⊥) → Q y) → Q (pick b x y)
pick_ok Q true x y f g = f tt
pick_ok Q false x y f g = g (λ n. n)

-- by cases on a test
pub by_test : {P : Type 0} (b : Bool) → (T b → P) → ((T b → ⊥) → P) → P
by_test true f g = f tt
by_test false f g = g (λ n. n)

-- by cases on whether two numbers are equal
pub by_equal : {P : Type 0} (a b : ℕ) → (a ≡ b → P) → ((a ≡ b → ⊥) → P) → P
by_equal {P} a b f g = go (eqb a b) refl
  where
    go : (q : Bool) → eqb a b ≡ q → P
    go true e = f (eqb-true a b e)
    go false e = g (eqb-false a b e)

-- by cases on which of two numbers is greater
pub by_order : {P : Type 0} (a b : ℕ) → (a ≤ b → P) → (b < a → P) → P
by_order {P} a b f g = go (leb a b) refl
  where
    go : (q : Bool) → leb a b ≡ q → P
    go true e = f (leb-true a b e)
    go false e = g (leb-false a b e)
