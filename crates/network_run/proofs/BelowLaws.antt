-- The grade of a sound network is below the number of grades.
use Prim.Native.Nat.{ℕ, zero, suc, ◌+◌, ◌-◌, ◌/◌, ◌≤◌, ◌<◌}
use mathlib.Core.Path.{◌≡◌, refl}
use mathlib.Core.Bool.{Bool, true, false, cond}
use mathlib.Core.List.{List, [], ◌∷◌, ◌++◌}
use native.Mathlib.Omega.{arith}
use borrow.Author.Tests.{lt-ltb}
use lib.Dec.{T, eqb, ltb, ltb→lt}
use lib.ListN.{length}
use Rattle.rules.specs.declared.Gate.TheVariants.{Min, Max}
use Rattle.rules.specs.Bytes.{at, word, record_at}
use Rattle.rules.specs.Cell.{card, present, value}
use Rattle.rules.specs.Network.{Record, gate, record_of, records_from, network_records, record_grade, run, literal_byte_sound, record_formed, network_sound, evaluate}
use Rattle.laws.proofs.TestLaws.{and_r, cond_ok, passed, passes, failed}
use Rattle.laws.proofs.CeilingLaws.{each_formed}
use Rattle.laws.proofs.TableLaws.{all-at, tabulate_from_below}
use Rattle.shape.specs.declared.Shape.{Shape}
use Rattle.shape.specs.Shapes.{places_of, is_sound}
use Rattle.shape.proofs.ShapeLaws.{sound-shape}
use Rattle.network_run.proofs.ReadLaws.{grades_formed, last_test}

-- a literal's byte for a value that there is
byte-below : (k m w q : ℕ) (b : Bool) → ltb w k ≡ b → w < k → T (cond b (ltb q m) (eqb q 0)) → q < m
byte-below k m w q true e h t = ltb→lt q m t
byte-below k m w q false e h t = let z = lt-ltb w k h in let y : ◌≡◌ {A = ℕ} 0 1 = cc in absurd (omega arith)

module _ (m : ℕ) (some : 0 < m) where
  abbrev Below : List ℕ → Type 0
  Below l = (j : ℕ) → at l j < m

  append-below : (l : List ℕ) (x : ℕ) → Below l → x < m → Below (l ++ (x ∷ []))
  append-below [] x h g zero = g
  append-below [] x h g (suc j) = some
  append-below (y ∷ l) x h g zero = h 0
  append-below (y ∷ l) x h g (suc j) = append-below l x (λ i. h (suc i)) g j

  module _ (ks : List ℕ) (few : (i : ℕ) → card ks i ≤ 8) (v : ℕ → ℕ) where
    record_below : (k : ℕ) (done r : List ℕ) → T (record_formed ks m k r) → Below done → record_grade v done (record_of ks r) < m
    record_below k done r s h =
        cond_ok (λ (x : Record). record_grade v done x < m) (eqb (at r 0) 0) _ _
        (λ z. ltb→lt (at r 1) m (last_test ks m k r s true (eqb (at r 0) 1) (passed (eqb (at r 0) 0) z) refl))
        (λ z.
        cond_ok (λ (x : Record). record_grade v done x < m) (eqb (at r 0) 1) _ _
        (λ o.
        let t = last_test ks m k r s false true (failed (eqb (at r 0) 0) z) (passed (eqb (at r 0) 1) o) in
        let grades = and_r (present ks (at r 1)) (grades_formed ks m r) t in
        tabulate_from_below m (λ w. at r (8 + w)) 0 (card ks (at r 1)) some
        (λ w a b.
        let low : w < card ks (at r 1) = omega arith in
        byte-below (card ks (at r 1)) m w (at r (8 + w)) (ltb w (card ks (at r 1))) refl low
        (all-at 8 (λ u. literal_byte_sound (card ks (at r 1)) m u (at r (8 + u))) grades w (omega (arith, few (at r 1)))))
        (v (at r 1)))
        (λ o.
        cond_ok (λ (x : Record). record_grade v done x < m) (eqb (at r 0) 2) (gate Min (word r 4) (word r 6)) (gate Max (word r 4) (word r 6))
        (λ t. omega (arith, h (word r 4), h (word r 6)))
        (λ t. omega (arith, h (word r 4), h (word r 6)))))

    run-below : (net : List ℕ) (n k : ℕ) (done : List ℕ) → ((j : ℕ) → k ≤ j → j < k + n → T (record_formed ks m j (record_at net j))) → Below done → Below (run v done (records_from ks net k n))
    run-below net zero k done s h = h
    run-below net (suc n) k done s h =
        run-below net n (suc k) _ (λ j a b. s j (omega arith) (omega arith))
        (append-below done _ h (record_below k done (record_at net k) (s k (omega arith) (omega arith)) h))

  pub evaluate-below : (ks net : List ℕ) (c : ℕ) → ((i : ℕ) → card ks i ≤ 8) → network_sound ks m net ≡ true → evaluate ks net c < m
  evaluate-below ks net c few s =
      run-below ks few (value ks c) net (length net / 16) 0 [] (λ j a b. each_formed ks m net (passes s) j (omega arith)) (λ j. some) (length (run (value ks c) [] (network_records ks net)) - 1)

-- of a sound network over a sound shape, which has at most sixteen grades
module _ (shape : Shape) (net : List ℕ) (sound : is_sound shape ≡ true) (network : network_sound (places_of shape) shape.m net ≡ true) where
  pub grade-below : (cell : ℕ) → evaluate (places_of shape) net cell < shape.m
  grade-below cell =
      let s = sound-shape shape sound in evaluate-below shape.m (omega (arith, s.grades-two)) (places_of shape) net cell s.values-few network
