-- A tree's records, run in order, give the tree's grade.
use Prim.Native.Nat.{ℕ, ◌+◌, ◌-◌}
use mathlib.Core.Path.{◌≡◌, refl, ◌∙◌, ap, ap₂}
use mathlib.Core.List.{List, [], ◌∷◌, ◌++◌, append_assoc}
use native.Mathlib.Omega.{arith}
use lib.ListN.{length, get_or, length-append}
use lib.Seq.{get_or_at}
use Rattle.rules.specs.Cell.{value}
use Rattle.rules.specs.Network.{combine, Record, gate, record_grade, run, network_grade}
use Rattle.rules.specs.Tree.{Tree, fixed, lookup, gated, tree_grade, size, records}
use Rattle.rules.specs.declared.Gate.{Gate}

-- the grades of a tree's records but for the last
inner : Tree → (ℕ → ℕ) → List ℕ
inner (fixed q) v = []
inner (lookup i gs) v = []
inner (gated op a b) v = (inner a v ++ (tree_grade a v ∷ [])) ++ (inner b v ++ (tree_grade b v ∷ []))

length_inner : (n : Tree) (v : ℕ → ℕ) → length (inner n v) + 1 ≡ size n
unfolding inner
length_inner (fixed q) v = refl
length_inner (lookup i gs) v = refl
length_inner (gated op a b) v =
    simp (length-append) (omega (arith, length_inner a v, length_inner b v))

run-append : (v : ℕ → ℕ) (done : List ℕ) (xs ys : List Record) → run v done (xs ++ ys) ≡ run v (run v done xs) ys
run-append v done [] ys = refl
run-append v done (x ∷ xs) ys = run-append v (done ++ (record_grade v done x ∷ [])) xs ys

pub place : (xs ys : List ℕ) (x : ℕ) (zs : List ℕ) (k : ℕ) → length xs + length ys ≡ k → get_or ((xs ++ (ys ++ (x ∷ []))) ++ zs) k 0 ≡ x
place xs ys x zs k e =
    let p : (xs ++ (ys ++ (x ∷ []))) ++ zs ≡ (xs ++ ys) ++ (x ∷ zs) = simp append_assoc in
    rw p (get_or_at (xs ++ ys) x zs 0 k (length-append xs ys ∙ e))

pub place-last : (xs ys : List ℕ) (x : ℕ) (k : ℕ) → length xs + length ys ≡ k → get_or (xs ++ (ys ++ (x ∷ []))) k 0 ≡ x
place-last xs ys x k e = rw (← (append_assoc xs ys (x ∷ []))) (get_or_at (xs ++ ys) x [] 0 k (length-append xs ys ∙ e))

-- what running a tree's records from `done` gives
outs : Tree → (ℕ → ℕ) → List ℕ → List ℕ
outs n v done = done ++ (inner n v ++ (tree_grade n v ∷ []))

length_outs : (n : Tree) (v : ℕ → ℕ) (done : List ℕ) → length (outs n v done) ≡ length done + size n
unfolding outs
length_outs n v done = simp length-append (omega (arith, length_inner n v))

run-gate : (op : Gate) (a b : Tree) (v : ℕ → ℕ) (done : List ℕ) (r : ℕ) → length done ≡ r
    → run v done (records a r) ≡ outs a v done
    → run v (outs a v done) (records b (r + size a)) ≡ outs b v (outs a v done)
    → run v done (records (gated op a b) r) ≡ outs (gated op a b) v done
unfolding inner outs
run-gate op a b v done r e ha hb =
    run-append v done (records a r ++ records b (r + size a)) (j ∷ [])
    ∙ ap (λ (d : List ℕ). run v d (j ∷ []))
    (run-append v done (records a r) (records b (r + size a)) ∙ ap (λ (d : List ℕ). run v d (records b (r + size a))) ha ∙ hb)
    ∙ ap₂ (λ (x y : ℕ). outs b v (outs a v done) ++ (combine op x y ∷ [])) at_left at_right
    ∙ simp append_assoc
  where
    j : Record
    j = gate op (r + size a - 1) (r + size a + size b - 1)

    at_left : get_or (outs b v (outs a v done)) (r + size a - 1) 0 ≡ tree_grade a v
    at_left = place done (inner a v) (tree_grade a v) (inner b v ++ (tree_grade b v ∷ [])) _ (omega (arith, length_inner a v))

    at_right : get_or (outs b v (outs a v done)) (r + size a + size b - 1) 0 ≡ tree_grade b v
    at_right = place-last (outs a v done) (inner b v) (tree_grade b v) _ (omega (arith, length_inner b v, length_outs a v done))

run-records : (n : Tree) (v : ℕ → ℕ) (done : List ℕ) (r : ℕ) → length done ≡ r → run v done (records n r) ≡ outs n v done
unfolding inner outs
run-records (fixed q) v done r e = refl
run-records (lookup i gs) v done r e = refl
run-records (gated op a b) v done r e =
    run-gate op a b v done r e (run-records a v done r e)
    (run-records b v (outs a v done) (r + size a) (length_outs a v done ∙ ap (λ (k : ℕ). k + size a) e))

pub tree-run : (n : Tree) (ks : List ℕ) (c : ℕ) → network_grade ks (records n 0) c ≡ tree_grade n (value ks c)
unfolding outs
tree-run n ks c =
    let v : ℕ → ℕ = value ks c in
    rw (run-records n (value ks c) [] 0 refl) (place-last [] (inner n v) (tree_grade n v) _ (omega (arith, length_inner n v, length_outs n v [])))
