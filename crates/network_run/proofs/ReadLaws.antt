-- What a record names is there, in a sound network over a sound shape.
use Prim.Native.Nat.{ℕ, ◌+◌, ◌/◌, ◌%◌, ◌≤◌, ◌<◌}
use mathlib.Core.Path.{◌≡◌, sym, subst, ap₂}
use mathlib.Core.Bool.{Bool, true, false, cond, ◌&&◌, ◌||◌}
use mathlib.Core.List.{List}
use native.Mathlib.Omega.{arith}
use borrow.Author.Tests.{eq-eqb, ne_eqb}
use lib.Dec.{T, eqb, ltb, leb, ltb→lt, eqb→eq}
use lib.ListN.{length}
use Rattle.rules.specs.Bytes.{at, all, word, record_at}
use Rattle.rules.specs.Cell.{card, present, value}
use Rattle.rules.specs.Network.{named, literal_byte_sound, record_formed, record_sound, network_sound, max_records}
use Rattle.laws.proofs.TestLaws.{and_l, and_r, passes}
use Rattle.laws.proofs.CeilingLaws.{each_formed}
use Rattle.laws.proofs.CellLaws.{present_lt, value_lt}
use Rattle.shape.specs.declared.Shape.{Shape}
use Rattle.shape.specs.Shapes.{places_of}
use Rattle.shape.proofs.ShapeLaws.{eight-places, shape-positive, sound-shape}
use Rattle.network_run.specs.Grades.{Readable, Ready}

-- what is asked of a literal's bytes, and of a gate's
abbrev pub grades_formed : List ℕ → ℕ → List ℕ → Bool
grades_formed ks m r = all 8 (λ v. literal_byte_sound (card ks (at r 1)) m v (at r (8 + v)))

abbrev pub literal_formed : List ℕ → ℕ → List ℕ → Bool
literal_formed ks m r = present ks (at r 1) && grades_formed ks m r

abbrev pub gate_formed : ℕ → List ℕ → Bool
gate_formed k r = ltb (word r 4) k && ltb (word r 6) k

module _ (ks : List ℕ) (m k : ℕ) (r : List ℕ) (s : T (record_formed ks m k r)) where
  -- the last test of a record of kind 0, of kind 1, and of a gate
  pub last_test : (z o : Bool) → eqb (at r 0) 0 ≡ z → eqb (at r 0) 1 ≡ o → T (cond z (ltb (at r 1) m) (cond o (literal_formed ks m r) (gate_formed k r)))
  last_test z o p q =
      let by_kind : Bool → Bool → Bool = λ a b. cond a (ltb (at r 1) m) (cond b (literal_formed ks m r) (gate_formed k r)) in
      subst T (ap₂ by_kind p q) (and_r (all 16 (λ j. named (at r 0) j || eqb (at r j) 0)) _ (and_r (ltb (at r 0) 4) _ s))

  condition-there : at r 0 ≡ 1 → at r 1 < length ks
  condition-there e = present_lt ks (at r 1) (and_l (present ks (at r 1)) _ (last_test false true (ne_eqb (at r 0) 0 (λ z. omega arith)) (eq-eqb (at r 0) 1 e)))

  gate_test : 2 ≤ at r 0 → T (gate_formed k r)
  gate_test h = last_test false false (ne_eqb (at r 0) 0 (λ z. omega arith)) (ne_eqb (at r 0) 1 (λ z. omega arith))

  records-there : 2 ≤ at r 0 → (word r 4 < k) × (word r 6 < k)
  records-there h =
      (ltb→lt (word r 4) k (and_l (ltb (word r 4) k) _ (gate_test h)), ltb→lt (word r 6) k (and_r (ltb (word r 4) k) _ (gate_test h)))

pub some_record : (ks : List ℕ) (m : ℕ) (net : List ℕ) → network_sound ks m net ≡ true → 1 ≤ length net / 16
some_record ks m net s =
    let n = length net in
    let sizes : T (ltb 0 n && (eqb (n % 16) 0 && leb (n / 16) max_records)) = and_l (ltb 0 n && (eqb (n % 16) 0 && leb (n / 16) max_records)) (all (n / 16) (record_sound ks m net)) (passes s) in
    let some : 0 < n = ltb→lt 0 n (and_l (ltb 0 n) (eqb (n % 16) 0 && leb (n / 16) max_records) sizes) in
    let whole : n % 16 ≡ 0 = eqb→eq (n % 16) 0 (and_l (eqb (n % 16) 0) (leb (n / 16) max_records) (and_r (ltb 0 n) (eqb (n % 16) 0 && leb (n / 16) max_records) sizes)) in
    omega arith

module _ (shape : Shape) (net work : List ℕ) (y : Ready shape net work) where
  pub value_low : (cell i : ℕ) → value (places_of shape) cell i < card (places_of shape) i
  value_low cell i = value_lt (places_of shape) cell i (shape-positive shape)

  card-low : (i : ℕ) → card (places_of shape) i ≤ 8
  card-low = (sound-shape shape y.shape-sound).values-few

  pub readable : (cell k : ℕ) (values done : List ℕ) → k < length net / 16 → ((i : ℕ) → at values i ≡ value (places_of shape) cell i) → length done ≡ k → Readable values done (record_at net k)
  readable cell k values done l same e =
      let sound = each_formed (places_of shape) shape.m net (passes y.network-sound) k l in
      record {
        small = λ i. omega (arith, same i, value_low cell i, card-low i);
        condition = λ one. omega (arith, eight-places shape, condition-there (places_of shape) shape.m k (record_at net k) sound one);
        records = λ two. subst (λ (n : ℕ). (word (record_at net k) 4 < n) × (word (record_at net k) 6 < n)) (sym e) (records-there (places_of shape) shape.m k (record_at net k) sound two);
      }
