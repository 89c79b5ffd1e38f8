-- Request 7: the ceilings of records in turn, and that those of a sound network bound the grades of its records.
use Prim.Native.Nat.{ℕ, zero, suc, ◌+◌, ◌*◌, ◌/◌, ◌≤◌, ◌<◌, max}
use mathlib.Core.Path.{◌≡◌, refl, ◌∙◌}
use mathlib.Core.Bool.{◌&&◌}
use mathlib.Core.List.{List, [], ◌∷◌, ◌++◌}
use native.Mathlib.Nat.{le_refl}
use native.Mathlib.Numerals.{add-one}
use native.Mathlib.Omega.{arith}
use lib.Dec.{T, ltb, eqb→eq}
use lib.ListN.{length, take, drop, length-append, get_or-append}
use lib.Seq.{get_or_at, get_or-take, get_or-drop, take-suc}
use Rattle.rules.specs.declared.Gate.{Gate}
use Rattle.rules.specs.declared.Gate.TheVariants.{Min, Max}
use Rattle.rules.specs.Bytes.{at, all, greatest, record_at}
use Rattle.rules.specs.Cell.{value}
use Rattle.rules.specs.Network.{combine, Record, constant, literal, gate, record_ceiling, record_of, records_from, record_formed, ceiling_at, ceiling_sound, record_sound, network_sound, record_grade, run}
use Rattle.rules.specs.Demands.{Capped}
use Rattle.laws.proofs.TestLaws.{and_l, and_r}
use Rattle.laws.proofs.TableLaws.{all-at}

-- the ceilings of all records: those done, and the others in turn
abbrev pub ceilings : List ℕ → List Record → List ℕ
ceilings done [] = done
ceilings done (r ∷ rs) = ceilings (done ++ (record_ceiling (at done) r ∷ [])) rs

pub length-ceilings : (done : List ℕ) (rs : List Record) → length (ceilings done rs) ≡ length done + length rs
length-ceilings done [] = omega arith
length-ceilings done (r ∷ rs) = omega (arith, length-ceilings (done ++ (record_ceiling (at done) r ∷ [])) rs, length-append done (record_ceiling (at done) r ∷ []))

-- those done stay
pub ceilings_keep : (done : List ℕ) (rs : List Record) (j : ℕ) → j < length done → at (ceilings done rs) j ≡ at done j
ceilings_keep done [] j h = refl
ceilings_keep done (r ∷ rs) j h =
    ceilings_keep (done ++ (record_ceiling (at done) r ∷ [])) rs j (omega (arith, length-append done (record_ceiling (at done) r ∷ [])))
    ∙ get_or-append done (record_ceiling (at done) r ∷ []) 0 j h

-- the first of the others
pub ceilings-first : (done : List ℕ) (r : Record) (rs : List Record) → at (ceilings done (r ∷ rs)) (length done) ≡ record_ceiling (at done) r
ceilings-first done r rs =
    ceilings_keep (done ++ (record_ceiling (at done) r ∷ [])) rs (length done) (omega (arith, length-append done (record_ceiling (at done) r ∷ [])))
    ∙ get_or_at done (record_ceiling (at done) r) [] 0 (length done) refl

-- the greatest of a list: no number exceeds it, and it exceeds no bound of all
pub at-greatest : (gs : List ℕ) (v : ℕ) → at gs v ≤ greatest gs
at-greatest [] v = le_refl 0
at-greatest (g ∷ gs) zero = omega arith
at-greatest (g ∷ gs) (suc v) = omega (arith, at-greatest gs v)

pub greatest-bound : (gs : List ℕ) (b : ℕ) → ((v : ℕ) → at gs v ≤ b) → greatest gs ≤ b
greatest-bound [] b h = omega arith
greatest-bound (g ∷ gs) b h = omega (arith, h 0, greatest-bound gs b (λ v. h (suc v)))

-- number by number
greatest-append : (xs ys : List ℕ) → greatest (xs ++ ys) ≡ max (greatest xs) (greatest ys)
greatest-append [] ys = omega arith
greatest-append (x ∷ xs) ys = omega (arith, greatest-append xs ys)

pub greatest-take : (gs : List ℕ) (v : ℕ) → v < length gs → greatest (take (v + 1) gs) ≡ max (greatest (take v gs)) (at gs v)
greatest-take gs v h = rw (add-one v, take-suc gs v 0 h, greatest-append (take v gs) (at gs v ∷ [])) (omega arith)

-- byte 2 where it stands in the network
pub ceiling_read : (net : List ℕ) (k : ℕ) → ceiling_at net k ≡ at net (16 * k + 2)
ceiling_read net k = get_or-take 16 (drop (16 * k) net) 2 0 (omega arith) ∙ get_or-drop (16 * k) net 2 0

-- a record's grade, from grades that exceed no ceiling
combine-capped : (op : Gate) (a b p q : ℕ) → a ≤ p → b ≤ q → combine op a b ≤ combine op p q
combine-capped Min a b p q h g = omega arith
combine-capped Max a b p q h g = omega arith

record_capped : (v tops : ℕ → ℕ) (done : List ℕ) (r : Record) → ((j : ℕ) → at done j ≤ tops j) → record_grade v done r ≤ record_ceiling tops r
record_capped v tops done (constant q) h = le_refl q
record_capped v tops done (literal i gs) h = at-greatest gs (v i)
record_capped v tops done (gate op l r) h = combine-capped op _ _ _ _ (h l) (h r)

next-capped : (tops : ℕ → ℕ) (done : List ℕ) (q : ℕ) → ((j : ℕ) → at done j ≤ tops j) → q ≤ tops (length done) → (j : ℕ) → at (done ++ (q ∷ [])) j ≤ tops j
next-capped tops [] q h g zero = g
next-capped tops [] q h g (suc j) = omega arith
next-capped tops (x ∷ done) q h g zero = h 0
next-capped tops (x ∷ done) q h g (suc j) = next-capped (λ i. tops (suc i)) done q (λ i. h (suc i)) g j

module _ (ks net : List ℕ) (v : ℕ → ℕ) where
  run-capped : (n k : ℕ) (done : List ℕ) → length done ≡ k → ((j : ℕ) → k ≤ j → j < k + n → T (ceiling_sound ks net j))
      → ((j : ℕ) → at done j ≤ ceiling_at net j) → (j : ℕ) → at (run v done (records_from ks net k n)) j ≤ ceiling_at net j
  run-capped zero k done e s h = h
  run-capped (suc n) k done e s h =
      let r : Record = record_of ks (record_at net k) in
      let q : ℕ = record_grade v done r in
      let top : ceiling_at net k ≡ record_ceiling (ceiling_at net) r = eqb→eq _ _ (s k (le_refl k) (omega arith)) in
      let here : q ≤ ceiling_at net (length done) = rw (e, top) (record_capped v (ceiling_at net) done r h) in
      run-capped n (suc k) (done ++ (q ∷ [])) (omega (arith, length-append done (q ∷ []))) (λ j a b. s j (omega arith) (omega arith))
      (next-capped (ceiling_at net) done q h here)

module _ (ks : List ℕ) (m : ℕ) (net : List ℕ) (sound : T (network_sound ks m net)) where
  each-sound : (k : ℕ) → k < length net / 16 → T (record_sound ks m net k)
  each-sound = all-at (length net / 16) (record_sound ks m net) (and_r (ltb 0 (length net) && _) (all (length net / 16) (record_sound ks m net)) sound)

  pub each_formed : (k : ℕ) → k < length net / 16 → T (record_formed ks m k (record_at net k))
  each_formed k h = and_l (record_formed ks m k (record_at net k)) (ceiling_sound ks net k) (each-sound k h)

  each_ceiling : (k : ℕ) → k < length net / 16 → T (ceiling_sound ks net k)
  each_ceiling k h = and_r (record_formed ks m k (record_at net k)) (ceiling_sound ks net k) (each-sound k h)

  -- of every sound network, whoever made it
  pub sound-capped : Capped ks net
  sound-capped c k h = run-capped ks net (value ks c) (length net / 16) 0 [] refl (λ j a b. each_ceiling j (omega arith)) (λ j. omega arith) k
