-- A network as a tree, before its records are numbered: what a stage gives.
use Rattle.std.specs.Prelude.{ℕ, suc, ◌+◌, ◌-◌, max, List, [], ◌∷◌, ◌++◌, get_or}
use Rattle.rules.specs.declared.Gate.{Gate}
use Rattle.rules.specs.Network.{Record, constant, literal, gate, combine}

-- a constant, a literal, or a gate over two trees
pub data Tree : Type 0 where
  fixed : ℕ → Tree
  lookup : ℕ → List ℕ → Tree
  gated : Gate → Tree → Tree → Tree

-- the grade of a tree where condition i has the value v i
abbrev pub tree_grade : Tree → (ℕ → ℕ) → ℕ
tree_grade (fixed q) v = q
tree_grade (lookup i gs) v = get_or gs (v i) 0
tree_grade (gated op a b) v = combine op (tree_grade a v) (tree_grade b v)

-- how many records a tree has
abbrev pub size : Tree → ℕ
size (fixed q) = 1
size (lookup i gs) = 1
size (gated op a b) = size a + size b + 1

-- the depth of gates under its root
abbrev pub tree_depth : Tree → ℕ
tree_depth (fixed q) = 0
tree_depth (lookup i gs) = 0
tree_depth (gated op a b) = suc (max (tree_depth a) (tree_depth b))

-- its records, the first of them numbered r: the left tree's, the right tree's, then the gate over their last records
abbrev pub records : Tree → ℕ → List Record
records (fixed q) r = constant q ∷ []
records (lookup i gs) r = literal i gs ∷ []
records (gated op a b) r =
    records a r ++ records b (r + size a) ++ (gate op (r + size a - 1) (r + size a + size b - 1) ∷ [])
