-- Well-formed trees: their records are well formed, they read only conditions of the shape, and give grades.
use Prim.Native.Nat.{ℕ, suc, ◌+◌, ◌≤◌, ◌<◌}
use mathlib.Core.Path.{◌≡◌, refl, sym, ◌∙◌, ap, ap₂, subst}
use mathlib.Core.List.{List, [], ◌∷◌, ◌++◌}
use native.Mathlib.Nat.{add-zero, le_refl}
use native.Mathlib.Omega.{arith}
use lib.Dec.{T}
use lib.ListN.{length, length-append}
use Rattle.laws.proofs.TableLaws.{at-tabulate, length-tabulate_from, tabulate_from_below}
use Rattle.laws.proofs.CellLaws.{Sub, sub-present, remap-value, cell_lt}
use Rattle.rules.specs.Bytes.{at, tabulate}
use Rattle.rules.specs.Cell.{Positive, cells, card, present, value, remap}
use Rattle.rules.specs.Network.{combine, Record, constant, literal, gate}
use Rattle.rules.specs.Tree.{Tree, fixed, lookup, gated, tree_grade, size, records}
use Rattle.rules.specs.Stage.{computed}
use Rattle.rules.specs.declared.Gate.{Gate}
use Rattle.rules.specs.declared.Gate.TheVariants.{Min, Max}

-- grades below m; a literal's condition in the shape, with a grade for each value
abbrev pub Made : List ℕ → ℕ → Tree → Type 0
Made ks m (fixed q) = q < m
Made ks m (lookup i gs) = T (present ks i) × (length gs ≡ card ks i) × ((v : ℕ) → at gs v < m)
Made ks m (gated op a b) = Made ks m a × Made ks m b

pub made_tabulate : (ks : List ℕ) (m i : ℕ) (f : ℕ → ℕ) → 0 < m → T (present ks i) → ((v : ℕ) → v < card ks i → f v < m) → Made ks m (lookup i (tabulate (card ks i) f))
made_tabulate ks m i f p h g = (h, length-tabulate_from f 0 (card ks i), tabulate_from_below m f 0 (card ks i) p (λ v a b. g v (omega arith)))

pub made_wider : (b a : List ℕ) (m : ℕ) (n : Tree) → Sub b a → Made b m n → Made a m n
made_wider b a m (fixed q) s h = h
made_wider b a m (lookup i gs) s h = (sub-present b a s i h.0, h.1 ∙ s i h.0, h.2)
made_wider b a m (gated op x y) s h = (made_wider b a m x s h.0, made_wider b a m y s h.1)

pub made_reads : (ks : List ℕ) (m : ℕ) (n : Tree) → Made ks m n → (v w : ℕ → ℕ) → ((i : ℕ) → T (present ks i) → v i ≡ w i) → tree_grade n v ≡ tree_grade n w
made_reads ks m (fixed q) h v w eq = refl
made_reads ks m (lookup i gs) h v w eq = ap (at gs) (eq i h.0)
made_reads ks m (gated op a b) h v w eq = ap₂ (combine op) (made_reads ks m a h.0 v w eq) (made_reads ks m b h.1 v w eq)

gate-below : (op : Gate) (x y m : ℕ) → x < m → y < m → combine op x y < m
gate-below Min x y m h g = omega arith
gate-below Max x y m h g = omega arith

pub made_below : (ks : List ℕ) (m : ℕ) (n : Tree) → Made ks m n → (v : ℕ → ℕ) → tree_grade n v < m
made_below ks m (fixed q) h v = h
made_below ks m (lookup i gs) h v = h.2 (v i)
made_below ks m (gated op a b) h v = gate-below op _ _ m (made_below ks m a h.0 v) (made_below ks m b h.1 v)

-- a network over fewer conditions, at the cell with the same values
pub made_remap : (a b : List ℕ) (m : ℕ) (n : Tree) (c : ℕ) → Positive a → Positive b → Sub b a → Made b m n → tree_grade n (value b (remap a b c)) ≡ tree_grade n (value a c)
made_remap a b m n c p q s h = made_reads b m n h _ _ (λ i t. remap-value a b c i p q s t)

-- a record that is not faulty, its own number being r
abbrev pub RecordOk : List ℕ → ℕ → ℕ → Record → Type 0
RecordOk ks m r (constant q) = q < m
RecordOk ks m r (literal i gs) = T (present ks i) × (length gs ≡ card ks i) × ((v : ℕ) → at gs v < m)
RecordOk ks m r (gate op a b) = (a < r) × (b < r)

-- so for all records, the first of them numbered r
abbrev pub RecordsOk : List ℕ → ℕ → ℕ → List Record → Type 0
RecordsOk ks m r [] = Unit {0}
RecordsOk ks m r (x ∷ xs) = RecordOk ks m r x × RecordsOk ks m (suc r) xs

-- records
pub length-records : (n : Tree) (r : ℕ) → length (records n r) ≡ size n
length-records (fixed q) r = refl
length-records (lookup i gs) r = refl
length-records (gated op a b) r = simp length-append (omega (arith, length-records a r, length-records b (r + size a)))

pub size_pos : (n : Tree) → 1 ≤ size n
size_pos (fixed q) = le_refl 1
size_pos (lookup i gs) = le_refl 1
size_pos (gated op a b) = omega arith

append_ok : (ks : List ℕ) (m r e : ℕ) (xs ys : List Record) → r + length xs ≡ e → RecordsOk ks m r xs → RecordsOk ks m e ys → RecordsOk ks m r (xs ++ ys)
append_ok ks m r e [] ys q h g = subst (λ (x : ℕ). RecordsOk ks m x ys) (sym q ∙ add-zero r) g
append_ok ks m r e (x ∷ xs) ys q h g = (h.0, append_ok ks m (suc r) e xs ys (omega arith) h.1 g)

pub made_records : (ks : List ℕ) (m : ℕ) (n : Tree) (r : ℕ) → Made ks m n → RecordsOk ks m r (records n r)
made_records ks m (fixed q) r h = (h, tt)
made_records ks m (lookup i gs) r h = (h, tt)
made_records ks m (gated op a b) r h =
    append_ok ks m r (r + size a + size b) (records a r ++ records b (r + size a)) _
    (omega (arith, length-append (records a r) (records b (r + size a)), length-records a r, length-records b (r + size a)))
    (append_ok ks m r (r + size a) (records a r) _ (omega (arith, length-records a r)) (made_records ks m a r h.0) (made_records ks m b (r + size a) h.1))
    ((omega (arith, size_pos a, size_pos b), omega (arith, size_pos a, size_pos b)), tt)

-- the function computed, at a cell
pub computed-at : (ks : List ℕ) (n : Tree) (c : ℕ) → c < cells ks → at (computed ks n) c ≡ tree_grade n (value ks c)
computed-at ks n = at-tabulate (cells ks) (λ c. tree_grade n (value ks c))

-- over fewer conditions: its function there, through the cell map
pub computed-remap : (a b : List ℕ) (m : ℕ) (n : Tree) (c : ℕ) → Positive a → Positive b → Sub b a → Made b m n → at (computed b n) (remap a b c) ≡ tree_grade n (value a c)
computed-remap a b m n c p q s h = computed-at b n (remap a b c) (cell_lt b (value a c) q) ∙ made_remap a b m n c p q s h
