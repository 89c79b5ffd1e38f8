-- Sound records and networks, test by test.
use Prim.Native.Nat.{ℕ, ◌+◌, ◌<◌, max}
use mathlib.Core.Path.{◌≡◌, refl, sym, ◌∙◌, ap}
use mathlib.Core.Bool.{Bool, true, false, cond, ◌&&◌, ◌||◌}
use mathlib.Core.List.{List}
use native.Mathlib.Omega.{arith}
use borrow.Author.Tests.{lt-ltb, le-ltb, le-leb, lt-leb}
use borrow.Author.Rules.{rules}
use lib.Dec.{eqb, ltb, leb}
use lib.ListN.{length, take, drop}
use Rattle.rules.specs.declared.Gate.{Gate}
use Rattle.rules.specs.declared.Gate.TheVariants.{Min, Max}
use Rattle.rules.specs.Bytes.{at, all, zeros, word, tabulate, greatest}
use Rattle.rules.specs.Network.{kind_of, combine, record_of, record_ceiling, named, record_formed, ceiling_at}
use Rattle.laws.proofs.LoopLaws.{card_read}
use Rattle.laws.proofs.TestLaws.{and_left, and_both, by_order}
use Rattle.network_scan.specs.Kinds.{grades_sound, literal_grades, literal_sound, gate_sound, ceiling_is}
use Rattle.network_scan.proofs.LiteralLaws.{literal_tests}

-- a literal's tests
module _ (ks : List ℕ) (m : ℕ) (r : List ℕ) where
  abbrev literal_whole : Bool
  literal_whole = literal_sound ks m r && ceiling_is (greatest (literal_grades ks r)) r

  -- in their order, where there is a place of the condition's number
  pub literal_by : (values : ℕ) → length r ≡ 16 → at r 1 < length ks → values ≡ at ks (at r 1)
      → literal_whole ≡ ((leb 2 values && (ltb (at r 2) m && zeros r (8 + values) 16)) && eqb (at r 2) (greatest (take 8 (drop 8 r))))
  literal_by values long l e =
      ap (λ (n : ℕ). (ltb 1 n && grades_sound n m r) && ceiling_is (greatest (tabulate n (λ v. at r (8 + v)))) r) (sym (e ∙ card_read ks (at r 1) l))
      ∙ by_order 2 values
      (λ le.
      ap (λ (b : Bool). (b && grades_sound values m r) && ceiling_is (greatest (tabulate values (λ v. at r (8 + v)))) r) (lt-ltb 1 values (omega arith))
      ∙ literal_tests values m r long (omega arith)
      ∙ sym (joined (leb 2 values) (ltb (at r 2) m) (zeros r (8 + values) 16) (eqb (at r 2) (greatest (take 8 (drop 8 r)))) (le-leb 2 values le)))
      (λ lt.
      and_left (ceiling_is (greatest (tabulate values (λ v. at r (8 + v)))) r) (and_left (grades_sound values m r) (le-ltb 1 values (omega arith)))
      ∙ sym (and_left (eqb (at r 2) (greatest (take 8 (drop 8 r)))) (and_left (ltb (at r 2) m && zeros r (8 + values) 16) (lt-leb 2 values lt))))
    where
      joined : (a b c d : Bool) → a ≡ true → ((a && (b && c)) && d) ≡ (b && (c && d))
      joined true true c d e = refl
      joined true false c d e = refl
      joined false b c d e = cc

-- a gate's
module _ (k : ℕ) (r : List ℕ) where
  pub gate-before : max (word r 4) (word r 6) < k → gate_sound k r ≡ true
  gate-before h = and_both (lt-ltb (word r 4) k (omega arith)) (lt-ltb (word r 6) k (omega arith))

-- a record's tests, in their order
choose : (a b z o constant literal gate : Bool) → Bool
choose a b z o constant literal gate = a && (b && cond z constant (cond o literal gate))

choose-same : (a b z o a' b' z' o' x y w : Bool) → a ≡ a' → b ≡ b' → z ≡ z' → o ≡ o' → choose a b z o x y w ≡ choose a' b' z' o' x y w
choose-same a b z o a' b' z' o' x y w p q s t = cc

module _ (ks : List ℕ) (m k : ℕ) (r : List ℕ) where
  abbrev pub bytes_sound : Bool
  bytes_sound = all 16 (λ j. named (at r 0) j || eqb (at r j) 0)

  -- the test of a kind that is a constant's, a literal's or a gate's
  abbrev pub kind_sound : Bool → Bool → Bool
  kind_sound z o = cond z (ltb (at r 1) m) (cond o (literal_sound ks m r) (gate_sound k r))

  pub record_by : (a b z o : Bool) → ltb (at r 0) 4 ≡ a → bytes_sound ≡ b → eqb (at r 0) 0 ≡ z → eqb (at r 0) 1 ≡ o
      → record_formed ks m k r ≡ (a && (b && kind_sound z o))
  unfolding choose
  record_by a b z o p q s t =
      choose-same (ltb (at r 0) 4) bytes_sound (eqb (at r 0) 0) (eqb (at r 0) 1) a b z o (ltb (at r 1) m) (literal_sound ks m r) (gate_sound k r) p q s t

-- a gate whose row passed: what is left of its tests
module _ (ks : List ℕ) (m k : ℕ) (r net : List ℕ) where
  pub gate_passed : (by : Gate) → kind_of by ≡ at r 0 → all 16 (λ j. named (kind_of by) j || eqb (at r j) 0) ≡ true
      → (record_formed ks m k r && ceiling_is (record_ceiling (ceiling_at net) (record_of ks r)) r)
      ≡ (gate_sound k r && ceiling_is (combine by (ceiling_at net (word r 4)) (ceiling_at net (word r 6))) r)
  gate_passed Min e t = search rules
  gate_passed Max e t = search rules
