-- The grades of records, from their bytes.
use Prim.Native.Nat.{ℕ, zero, suc, ◌+◌, ◌<◌, min, max}
use mathlib.Core.Path.{◌≡◌, refl, sym, ◌∙◌, ap}
use mathlib.Core.Bool.{Bool, true, false, cond}
use mathlib.Core.List.{List, [], ◌∷◌, ◌++◌}
use native.Mathlib.Nat.{add-zero, zero-add}
use native.Mathlib.Omega.{arith}
use lib.Dec.{eqb}
use lib.ListN.{get_or}
use Rattle.rules.specs.Bytes.{at, word, tabulate, record_at}
use Rattle.rules.specs.Cell.{card}
use Rattle.rules.specs.Network.{constant, literal, gate, record_of, records_from, record_grade, run}
use Rattle.rules.specs.declared.Gate.TheVariants.{Min, Max}
use Rattle.laws.proofs.TableLaws.{at-tabulate}
use Rattle.network_run.specs.Grades.{gate_grade, byte_grade}

-- a record as the rules read it has the same grade
choose_record : (v : ℕ → ℕ) (done : List ℕ) (z o t : Bool) (q i : ℕ) (gs : List ℕ) (left right : ℕ)
    → record_grade v done (cond z (constant q) (cond o (literal i gs) (cond t (gate Min left right) (gate Max left right))))
    ≡ cond z q (cond o (get_or gs (v i) 0) (cond t (min (at done left) (at done right)) (max (at done left) (at done right))))
choose_record v done true o t q i gs left right = refl
choose_record v done false true t q i gs left right = refl
choose_record v done false false true q i gs left right = refl
choose_record v done false false false q i gs left right = refl

module _ (ks : List ℕ) (v : ℕ → ℕ) (low : (i : ℕ) → v i < card ks i) where
  byte_record : (done r : List ℕ) → record_grade v done (record_of ks r) ≡ byte_grade v done r
  byte_record done r =
      choose_record v done (eqb (at r 0) 0) (eqb (at r 0) 1) (eqb (at r 0) 2) (at r 1) (at r 1) (tabulate (card ks (at r 1)) (λ w. at r (8 + w))) (word r 4) (word r 6)
      ∙ ap (λ (x : ℕ). cond (eqb (at r 0) 0) (at r 1) (cond (eqb (at r 0) 1) x (gate_grade (at r 0) (at done (word r 4)) (at done (word r 6)))))
      (at-tabulate (card ks (at r 1)) (λ w. at r (8 + w)) (v (at r 1)) (low (at r 1)))

-- one record more
run-next : (ks : List ℕ) (v : ℕ → ℕ) (net done : List ℕ) (a n : ℕ)
    → run v done (records_from ks net a (suc n))
    ≡ (let d = run v done (records_from ks net a n) in d ++ (record_grade v d (record_of ks (record_at net (a + n))) ∷ []))
run-next ks v net done a zero = ap (λ (k : ℕ). done ++ (record_grade v done (record_of ks (record_at net k)) ∷ [])) (sym (add-zero a))
run-next ks v net done a (suc n) =
    let e : suc a + n ≡ a + suc n = omega arith in
    let first = done ++ (record_grade v done (record_of ks (record_at net a)) ∷ []) in
    let d = run v first (records_from ks net (suc a) n) in
    run-next ks v net first (suc a) n ∙ ap (λ (k : ℕ). d ++ (record_grade v d (record_of ks (record_at net k)) ∷ [])) e

-- the grades of the first k records, from their bytes
abbrev pub byte_run : (ℕ → ℕ) → List ℕ → ℕ → List ℕ
byte_run v net zero = []
byte_run v net (suc k) = let d = byte_run v net k in d ++ (byte_grade v d (record_at net k) ∷ [])

byte_grade-same : (v w : ℕ → ℕ) (done r : List ℕ) → ((i : ℕ) → v i ≡ w i) → byte_grade v done r ≡ byte_grade w done r
byte_grade-same v w done r e =
    ap (λ (x : ℕ). cond (eqb (at r 0) 0) (at r 1) (cond (eqb (at r 0) 1) (at r (8 + x)) (gate_grade (at r 0) (at done (word r 4)) (at done (word r 6))))) (e (at r 1))

module _ (ks : List ℕ) (v w : ℕ → ℕ) (same : (i : ℕ) → v i ≡ w i) (low : (i : ℕ) → w i < card ks i) (net : List ℕ) where
  pub byte_run-run : (k : ℕ) → byte_run v net k ≡ run w [] (records_from ks net 0 k)
  byte_run-run zero = refl
  byte_run-run (suc k) =
      ap (λ (d : List ℕ). d ++ (byte_grade v d (record_at net k) ∷ [])) (byte_run-run k)
      ∙ ap (λ (q : ℕ). d ++ (q ∷ [])) (byte_grade-same v w d (record_at net k) same ∙ sym (byte_record ks w low d (record_at net k)))
      ∙ ap (λ (n : ℕ). d ++ (record_grade w d (record_of ks (record_at net n)) ∷ [])) (sym (zero-add k))
      ∙ sym (run-next ks w net [] 0 k)
    where
      d : List ℕ
      d = run w [] (records_from ks net 0 k)
