-- What a walk over the cells of a table finds, and the condition that it goes along.
use Prim.Native.Nat.{ℕ, ◌<◌}
use mathlib.Core.Path.{◌≡◌, refl, sym, ◌∙◌}
use mathlib.Core.Bool.{Bool, true, false}
use mathlib.Core.List.{List}
use native.Mathlib.Omega.{arith}
use lib.ListN.{length, get_or}
use Rattle.rules.specs.Bytes.{all}
use Rattle.laws.proofs.TableLaws.{all_false}
use Rattle.tables.proofs.ScanLaws.{all_passed}
use Rattle.lines.specs.declared.Along.{Along}
use Rattle.lines.specs.Walk.{Lined, OnLine, Gave, AllGave, SomeGave}
use Rattle.lines.proofs.AlongLaws.{Walks}
use Rattle.lines.proofs.LeastLaws.{Axis, steps, some, block-low}
use Rattle.tables.specs.Line.{Counts}
use Rattle.tables.specs.Part.{Shaped}

-- what a walk finds is a test of all cells, if what each cell gives is
pub all_gave : {post : ℕ → Along → Bool → Type 0} {n stp crd : ℕ} {r : Bool} (p : ℕ → Bool)
    → ((c : ℕ) (on : Along) (q : Bool) → c < n → OnLine stp crd c on → post c on q → q ≡ p c)
    → (r ≡ true → AllGave post n stp crd true) → (r ≡ false → SomeGave post n stp crd false) → r ≡ all n p
all_gave {post} {n} {stp} {crd} {r} p is passed failed = go r refl
  where
    at-cell : {c : ℕ} {q : Bool} → c < n → Gave post stp crd c q → p c ≡ q
    at-cell {c} {q} h g = sym (is c g.on q h g.line g.met)

    go : (b : Bool) → r ≡ b → r ≡ all n p
    go true e = e ∙ sym (all_passed n p refl (λ k h. at-cell h (passed e k h)))
    go false e = let s = failed e in e ∙ sym (all_false n p s.cell s.within (at-cell s.within s.gave))

-- a condition of a shape
pub axis_of : {ks : List ℕ} {i n stp : ℕ} → Counts ks i n stp → length ks ≡ 8 → Axis ks i stp (get_or ks i 0)
axis_of c e = let p = c.place in record { place = omega arith; step_is = c.step_is; card-is = refl }

module _ {ks : List ℕ} {i stp crd : ℕ} (x : Axis ks i stp crd) where
  pub axis-lined : Shaped ks → Lined stp crd
  axis-lined shaped = record { steps = steps shaped x; some = some shaped x; few = block-low shaped x }

  pub axis-walks : {c : ℕ} {on : Along} → OnLine stp crd c on → Walks ks i c on
  axis-walks o =
      record {
        axis = record { place = x.place; step_is = o.step_is ∙ x.step_is; card-is = o.card-is ∙ x.card-is };
        stands = o.stands;
      }
