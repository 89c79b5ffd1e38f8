-- A block by its rows.
use Prim.Native.Nat.{ℕ, ◌+◌, ◌*◌, ◌≤◌, ◌<◌}
use mathlib.Core.Path.{◌≡◌, refl, sym, ◌∙◌, ap}
use mathlib.Core.Bool.{Bool}
use mathlib.Core.List.{List}
use mathlib.Core.Logic.{inl}
use native.Mathlib.Nat.{mul-one, mul-le-mul_left}
use native.Mathlib.Omega.{arith}
use borrow.Author.Count.{below_more}
use lib.ListN.{length}
use Rattle.rules.specs.Bytes.{at, tabulate}
use Rattle.laws.proofs.TableLaws.{at-tabulate}
use Rattle.laws.proofs.TestLaws.{by_order}
use Rattle.tables.specs.Part.{part, Laid, Two}
use Rattle.tables.specs.Line.{best, line_best, Block}
use Rattle.tables.proofs.PartLaws.{part_at}
use Rattle.tables.proofs.LineLaws.{best-more, best-one, line-end, line_same}
use Rattle.rows.specs.Grades.{source, Room}
use Rattle.rows.specs.Blocks.{BlockSet, Started, Repeated}
use Rattle.rows.proofs.GradesLaws.{unread}

-- row v behind the first
pub row_behind : (step v : ℕ) → 0 < v → step ≤ step * v
row_behind step v some = omega (arith, mul-le-mul_left step some, mul-one step)

-- the first row has the extremes of the grades of the rows below v
abbrev pub Extremes : Bool → List ℕ → ℕ → List ℕ → ℕ → ℕ → ℕ → List ℕ → Type 0
Extremes greatest g from w to step v w' = Laid w to (tabulate step (λ o. line_best greatest g (from + o) step v)) step w'

pub extremes_one : (greatest : Bool) {g : List ℕ} {from : ℕ} {w : List ℕ} {to step : ℕ} → Started g from w to step → Extremes greatest g from w to step 1 w
extremes_one greatest {g} {from} {w} {to} {step} r =
    record {
      len = refl;
      here = λ o h. r.row o h ∙ best-one greatest g (from + o) step ∙ sym (at-tabulate step (λ o. line_best greatest g (from + o) step 1) o h);
      before = λ j h. refl;
      after = λ j h. refl;
    }

-- the room of a first row, when rows below v are in it
module _ {lent w : List ℕ} {from to step card : ℕ} (r : Room lent w from (step * card) to step) {v : ℕ} (some : 0 < v) (lt : v < card) (row : 0 < step) where
  pub extremes_more : (greatest : Bool) {w' w'' : List ℕ} → Extremes greatest (source lent w) from w to step v w'
      → Laid w' to (tabulate step (λ o. best greatest (at w' (to + o)) (at (source lent w') (from + step * v + o)))) step w''
      → Extremes greatest (source lent w) from w to step (v + 1) w''
  extremes_more greatest {w'} {w''} l m =
      record {
        len = m.len ∙ l.len;
        here = λ o h.
            let i : from + step * v + o ≡ from + (step * v + o) = omega arith in
            let j : from + (step * v + o) ≡ from + o + step * v = omega arith in
            m.here o h ∙ at-tabulate step _ o h
            ∙ ap (best greatest (at w' (to + o)))
            (ap (at (source lent w')) i
            ∙ unread w' r l.before l.after (step * v + o) (omega (arith, line-end step card v lt)) (λ s e. l.after (to + (step * v + o)) (omega (arith, row_behind step v some)))
            ∙ ap (at (source lent w)) j)
            ∙ best-more greatest (source lent w) (from + o) step v (at w' (to + o)) (l.here o h ∙ at-tabulate step _ o h)
            ∙ sym (at-tabulate step (λ o. line_best greatest (source lent w) (from + o) step (v + 1)) o h);
        before = λ j h. m.before j h ∙ l.before j h;
        after = λ j h. m.after j h ∙ l.after j h;
      }

-- a row that is taken, and then folded
module _ {lent w : List ℕ} {from to step card : ℕ} (some : 0 < card) (r : Room lent w from (step * card) to step) {w' : List ℕ} (l : Laid w to (part (source lent w) from step) step w') where
  grade : (k : ℕ) → k < step * card → at (source lent w') (from + k) ≡ at (source lent w) (from + k)
  grade k lt =
      unread w' r l.before l.after k lt
      (λ s e.
      let i : from + k ≡ to + k = omega arith in
      by_order step k (λ hi. l.after (to + k) (omega arith)) (λ lo. l.here k lo ∙ part_at (source lent w) from step k lo ∙ ap (λ (x : List ℕ). at x (from + k)) s ∙ ap (at w) i))

  pub started : Started (source lent w') from w' to step
  started = record { row = λ o h. l.here o h ∙ part_at (source lent w) from step o h ∙ sym (grade o (omega (arith, line-end step card 0 some))) }

  pub first_extremes : (greatest : Bool) {w'' : List ℕ} → Extremes greatest (source lent w') from w' to step card w'' → Extremes greatest (source lent w) from w to step card w''
  first_extremes greatest {w''} m =
      record {
        len = m.len ∙ l.len;
        here = λ o h.
            m.here o h ∙ at-tabulate step _ o h
            ∙ line_same greatest (source lent w) (source lent w') (from + o) step card some
            (λ v hv.
            let i : from + (o + step * v) ≡ from + o + step * v = omega arith in
            sym (ap (at (source lent w')) i) ∙ grade (o + step * v) (omega (arith, line-end step card v hv)) ∙ ap (at (source lent w)) i)
            ∙ sym (at-tabulate step (λ o. line_best greatest (source lent w) (from + o) step card) o h);
        before = λ j h. m.before j h ∙ l.before j h;
        after = λ j h. m.after j h ∙ l.after j h;
      }

module _ {w : List ℕ} {a step card : ℕ} (b : Block w a step card) {v : ℕ} (some : 0 < v) (lt : v < card) where
  pub copy_within : a + step * v + step ≤ length w
  copy_within = let i = b.inside in omega (arith, line-end step card v lt)

  pub first-to-row : {w' : List ℕ} → length w' ≡ length w → Two w' a (a + step * v) step
  first-to-row e = record { src = omega (arith, copy_within, row_behind step v some); dst = omega (arith, copy_within); apart = inl (omega (arith, row_behind step v some)) }

  pub repeated_more : {w' w'' : List ℕ} → Repeated w a step card v w' → Laid w' (a + step * v) (part w' a step) step w'' → Repeated w a step card (v + 1) w''
  repeated_more {w'} {w''} l m =
      record {
        len = m.len ∙ l.len;
        rows = λ o u h hu.
            below_more (λ u. at w'' (a + o + step * u) ≡ at w (a + o)) v
            (λ u hu. m.before (a + o + step * u) (omega (arith, line-end step v u hu)) ∙ l.rows o u h hu)
            (let i : a + o + step * v ≡ a + step * v + o = omega arith in
            let z : a + o ≡ a + o + step * 0 = omega arith in
            ap (at w'') i ∙ m.here o h ∙ part_at w' a step o h ∙ ap (at w') z ∙ l.rows o 0 h some) u hu;
        before = λ j h. m.before j (omega arith) ∙ l.before j h;
        after = λ j h. m.after j (omega (arith, line-end step card v lt)) ∙ l.after j h;
      }

-- both together
pub rows-set : (greatest : Bool) {g : List ℕ} {from : ℕ} {w : List ℕ} {to step card : ℕ} {w' w'' : List ℕ} → 0 < card → Extremes greatest g from w to step card w'
    → Repeated w' to step card card w'' → BlockSet greatest g from w to step card step w''
rows-set greatest {g} {from} {w} {to} {step} {card} {w'} {w''} some l m =
    record {
      len = m.len ∙ l.len;
      done = λ o v ho hv. m.rows o v ho hv ∙ l.here o ho ∙ at-tabulate step _ o ho;
      left = λ o v h g. absurd (omega arith);
      before = λ j h. m.before j h ∙ l.before j h;
      after = λ j h. m.after j h ∙ l.after j (omega (arith, line-end step card 0 some));
    }
