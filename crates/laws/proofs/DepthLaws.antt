-- The depth of a tree's network is the tree's; a forecast stops where compiling does.
use Prim.Native.Nat.{ℕ, suc, ◌+◌, ◌-◌, ◌*◌, ◌<◌, max}
use mathlib.Core.Path.{◌≡◌, refl, ◌∙◌, ap, ap₂}
use mathlib.Core.Bool.{Bool, true, false, ◌&&◌}
use mathlib.Core.List.{List, [], ◌∷◌, ◌++◌, append_assoc}
use native.Mathlib.Omega.{arith}
use lib.Dec.{T, leb, le→leb}
use lib.ListN.{length, get_or, length-append}
use Rattle.rules.specs.declared.Gate.{Gate}
use Rattle.rules.specs.declared.Settings.{Settings}
use Rattle.rules.specs.declared.Refusal.TheVariants.{ShapeRange, GradeLimits, ShortBuffer}
use Rattle.rules.specs.Cell.{cells}
use Rattle.rules.specs.Shape.{places, shape_sound}
use Rattle.rules.specs.Limits.{Limits, limits_sound}
use Rattle.rules.specs.Verdict.{accepted, unless, and_then}
use Rattle.rules.specs.Network.{Record, gate}
use Rattle.rules.specs.Tree.{Tree, fixed, lookup, gated, tree_depth, size, records}
use Rattle.rules.specs.Demands.{compiled_records}
use Rattle.rules.specs.CompileCall.{most_records, table_room}
use Rattle.rules.specs.Forecast.{record_depth, depths, network_depth, forecast_of, Foretold}
use Rattle.laws.proofs.RunLaws.{place, place-last}

-- the depths of a tree's records but for the last
inner_depths : Tree → List ℕ
inner_depths (fixed q) = []
inner_depths (lookup i gs) = []
inner_depths (gated op a b) = (inner_depths a ++ (tree_depth a ∷ [])) ++ (inner_depths b ++ (tree_depth b ∷ []))

length_inner_depths : (n : Tree) → length (inner_depths n) + 1 ≡ size n
unfolding inner_depths
length_inner_depths (fixed q) = refl
length_inner_depths (lookup i gs) = refl
length_inner_depths (gated op a b) = simp length-append (omega (arith, length_inner_depths a, length_inner_depths b))

pub depths-append : (done : List ℕ) (xs ys : List Record) → depths done (xs ++ ys) ≡ depths (depths done xs) ys
depths-append done [] ys = refl
depths-append done (x ∷ xs) ys = depths-append (done ++ (record_depth done x ∷ [])) xs ys

-- the depths with those of a tree's records behind `done`
deeper : Tree → List ℕ → List ℕ
deeper n done = done ++ (inner_depths n ++ (tree_depth n ∷ []))

length_deeper : (n : Tree) (done : List ℕ) → length (deeper n done) ≡ length done + size n
unfolding deeper
length_deeper n done = simp length-append (omega (arith, length_inner_depths n))

depths-gate : (op : Gate) (a b : Tree) (done : List ℕ) (r : ℕ) → length done ≡ r
    → depths done (records a r) ≡ deeper a done
    → depths (deeper a done) (records b (r + size a)) ≡ deeper b (deeper a done)
    → depths done (records (gated op a b) r) ≡ deeper (gated op a b) done
unfolding inner_depths deeper
depths-gate op a b done r e ha hb =
    depths-append done (records a r ++ records b (r + size a)) (j ∷ [])
    ∙ ap (λ (d : List ℕ). depths d (j ∷ []))
    (depths-append done (records a r) (records b (r + size a)) ∙ ap (λ (d : List ℕ). depths d (records b (r + size a))) ha ∙ hb)
    ∙ ap₂ (λ (x y : ℕ). deeper b (deeper a done) ++ (suc (max x y) ∷ [])) at_left at_right
    ∙ simp append_assoc
  where
    j : Record
    j = gate op (r + size a - 1) (r + size a + size b - 1)

    at_left : get_or (deeper b (deeper a done)) (r + size a - 1) 0 ≡ tree_depth a
    at_left = place done (inner_depths a) (tree_depth a) (inner_depths b ++ (tree_depth b ∷ [])) _ (omega (arith, length_inner_depths a))

    at_right : get_or (deeper b (deeper a done)) (r + size a + size b - 1) 0 ≡ tree_depth b
    at_right = place-last (deeper a done) (inner_depths b) (tree_depth b) _ (omega (arith, length_inner_depths b, length_deeper a done))

depths-records : (n : Tree) (done : List ℕ) (r : ℕ) → length done ≡ r → depths done (records n r) ≡ deeper n done
unfolding inner_depths deeper
depths-records (fixed q) done r e = refl
depths-records (lookup i gs) done r e = refl
depths-records (gated op a b) done r e =
    depths-gate op a b done r e (depths-records a done r e)
    (depths-records b (deeper a done) (r + size a) (length_deeper a done ∙ ap (λ (k : ℕ). k + size a) e))

-- so that code can return the depth along the recursion that puts the records
pub tree-depth : (n : Tree) → network_depth (records n 0) ≡ tree_depth n
unfolding deeper
tree-depth n =
    rw (depths-records n [] 0 refl) (place-last [] (inner_depths n) (tree_depth n) _ (omega (arith, length_inner_depths n, length_deeper n [])))

-- fewer gates than records lie above one another
pub depth-size : (n : Tree) → tree_depth n < size n
depth-size (fixed q) = omega arith
depth-size (lookup i gs) = omega arith
depth-size (gated op a b) = omega (arith, depth-size a, depth-size b)

pub foretold : (how : Settings) (n : ℕ) (cards : List ℕ) (m lower upper work : ℕ) (l : Limits) → Foretold how n cards m lower upper work l
foretold how n cards m lower upper work l network h =
    go (shape_sound n cards m) (table_room c lower upper work) (leb (16 * most_records c) network) (limits_sound ks m l) (λ t. le→leb _ _ (h t))
  where
    ks : List ℕ
    ks = places cards

    c : ℕ
    c = cells ks

    rs : List Record
    rs = compiled_records how ks m l

    go : (a b d e : Bool) → (T a → T d)
        → unless a ShapeRange (unless b ShortBuffer (unless e GradeLimits (accepted (forecast_of rs))))
        ≡ and_then (unless a ShapeRange (unless (b && d) ShortBuffer (unless e GradeLimits (accepted rs)))) (λ xs. accepted (forecast_of xs))
    go false b d e t = refl
    go true false d e t = refl
    go true true false e t = absurd (t tt)
    go true true true false t = refl
    go true true true true t = refl
