-- The whole grouping, from the first pair that joins and the sets that grew from it.
use Prim.Native.Nat.{ℕ}
use mathlib.Core.Path.{◌≡◌, ◌∙◌, ap, ap₂}
use mathlib.Core.Bool.{Bool}
use mathlib.Core.List.{List}
use Rattle.rules.specs.Bytes.{numbers_from}
use Rattle.rules.specs.Cell.{cells, present, singleton}
use Rattle.rules.specs.Stage.{none, sets, first_pair, grow, grouping}
use Rattle.tables.specs.Part.{part}
use Rattle.grouping.specs.Joining.{joins, joins_at}
use Rattle.grouping.specs.Growing.{Held, Space, Started, Grows, First, sets_of, Grouped}
use Rattle.grouping.specs.declared.Sets.{Sets}
use Rattle.grouping.proofs.KeptLaws.{kept_then, kept-part}

-- where no pair joins, nothing does
pub grouped_nothing : (ks : List ℕ) (joins : ℕ → ℕ → Bool) → none ≡ first_pair (present ks) joins (numbers_from 0 8)
    → none ≡ grouping (present ks) joins (numbers_from 0 8)
grouped_nothing ks joins e = ap (grow (present ks) joins (numbers_from 0 8)) e

-- the tables of the pair, and those of the sets that it has grown to
pub grouped : {w ks : List ℕ} {low high i j a b : ℕ} {w' w'' : List ℕ} {p q : Sets} → First (joins_at ks w low high) ks i j → Space w ks low a b
    → Started w ks i j high a b w' → p.s ≡ singleton i → p.t ≡ singleton j
    → Grows w' ks low a b p.s p.t (λ js. grow (present ks) js (numbers_from 0 8) (sets_of p)) q.s q.t w'' → Grouped w ks low high a b q w''
grouped {w} {ks} {low} {high} {i} {j} {a} {b} {w'} {w''} {p} {q} f sp st es et g =
    record {
      is =
          g.is u h
          ∙ ap (λ (l : List ℕ). grow (present ks) (joins ks l u) (numbers_from 0 8) (sets_of p)) (kept-part sp.first sp.second st.kept)
          ∙ ap (grow (present ks) (joins_at ks w low high) (numbers_from 0 8)) (ap₂ sets es et ∙ f.is);
      held = g.held u h;
      kept = kept_then st.kept g.kept;
    }
  where
    u : List ℕ
    u = part w high (cells ks)

    h : Held ks u p.s p.t a b w'
    h = rw (es, et) st.held
