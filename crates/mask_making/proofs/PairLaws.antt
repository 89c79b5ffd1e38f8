-- A condition of two values: its lines, marked pair by pair, row by row and block by block.
use Prim.Native.Nat.{ℕ, ◌+◌, ◌*◌, ◌≤◌, ◌<◌}
use mathlib.Core.Path.{◌≡◌, refl, ◌∙◌, ap, ap₂}
use mathlib.Core.Bool.{Bool}
use mathlib.Core.List.{List}
use mathlib.Core.Logic.{⊎_elim, inl, inr}
use native.Mathlib.Nat.{mul-suc}
use native.Mathlib.Numerals.{add-one}
use native.Mathlib.Omega.{arith}
use borrow.Author.Count.{below_more}
use lib.Dec.{ltb}
use Rattle.rules.specs.Bytes.{at}
use Rattle.tables.proofs.LineLaws.{line-end}
use Rattle.mask_making.specs.Marking.{less, HasBit, Kept, Same, CellMarked, LineMarked, OnlyLine, RowsMarked, BlocksMarked}
use Rattle.mask_making.proofs.KeptLaws.{holds_same, kept_then}

-- a cell whose masks stay
same_self : (w : List ℕ) (n x : ℕ) → Same w n x w
same_self w n x = record { first = refl; second = refl }

same_then : {w : List ℕ} {n x : ℕ} {w' w'' : List ℕ} → Same w n x w' → Same w' n x w'' → Same w n x w''
same_then s t = record { first = t.first ∙ s.first; second = t.second ∙ s.second }

pub same_bit : {w : List ℕ} {n b x : ℕ} {w' : List ℕ} → Kept w n w' → Same w n x w' → HasBit w n b x → HasBit w' n b x
same_bit {w' = w'} k s h =
    record { first = holds_same w' h.first k.len s.first; second = holds_same w' h.second k.len s.second }

-- a cell that is marked by tests that come out alike
pub cell_as : {w : List ℕ} {n b x : ℕ} {p q p' q' : Bool} {w' : List ℕ} → p ≡ p' → q ≡ q' → CellMarked w n b x p q w'
    → CellMarked w n b x p' q' w'
cell_as {w} {n} {b} {x} d e m =
    record {
      first = m.first ∙ ap (λ (t : Bool). less t b (at w (2 * n + x))) d;
      second = m.second ∙ ap (λ (t : Bool). less t b (at w (3 * n + x))) e;
    }

-- a cell that is marked, and other cells before and after it
module _ {w : List ℕ} {n b x : ℕ} {p q : Bool} {w' w'' : List ℕ} where
  cell_then : CellMarked w n b x p q w' → Same w' n x w'' → CellMarked w n b x p q w''
  cell_then m s = record { first = s.first ∙ m.first; second = s.second ∙ m.second }

  cell_from : Same w n x w' → CellMarked w' n b x p q w'' → CellMarked w n b x p q w''
  cell_from s m = record { first = m.first ∙ ap (less p b) s.first; second = m.second ∙ ap (less q b) s.second }

-- the same of a line
module _ {w : List ℕ} {n b x y : ℕ} {w' w'' : List ℕ} where
  line_then : LineMarked w n b x y w' → Same w' n x w'' → Same w' n y w'' → LineMarked w n b x y w''
  line_then l s t = record { one = cell_then l.one s; two = cell_then l.two t }

  line_from : Kept w n w' → x < n → y < n → Same w n x w' → Same w n y w' → LineMarked w' n b x y w'' → LineMarked w n b x y w''
  line_from k hx hy s t l =
      record {
        one = cell_as (test hy hx) (test hx hy) (cell_from s l.one);
        two = cell_as (test hx hy) (test hy hx) (cell_from t l.two);
      }
    where
      test : {u v : ℕ} → u < n → v < n → ltb (at w' (n + u)) (at w' v) ≡ ltb (at w (n + u)) (at w v)
      test {u} {v} hu hv = ap₂ ltb (k.limits (n + u) (omega arith)) (k.limits v (omega arith))

-- lines of a block
module _ {w : List ℕ} {n b a step s : ℕ} {w' : List ℕ} (r : RowsMarked w n b a step s w') (h : s < step) (fits : a + step * 2 ≤ n) where
  -- the next line is not marked yet
  pub next-first : Same w n (a + s) w'
  next-first = r.left (a + s) (omega arith) (λ o l e. ⊎_elim (λ q. omega arith) (λ q. omega arith) e)

  pub next-second : Same w n (a + step + s) w'
  next-second = r.left (a + step + s) (omega arith) (λ o l e. ⊎_elim (λ q. omega arith) (λ q. omega arith) e)

  pub rows_more : {w'' : List ℕ} → OnlyLine w' n b (a + s) (a + step + s) w'' → RowsMarked w n b a step (s + 1) w''
  rows_more {w''} l =
      record {
        kept = kept_then r.kept l.kept;
        done =
            below_more (λ o. LineMarked w n b (a + o) (a + step + o) w'') s
            (λ o lt.
            line_then (r.done o lt) (l.left (a + o) (omega arith) (λ q. omega arith) (λ q. omega arith))
            (l.left (a + step + o) (omega arith) (λ q. omega arith) (λ q. omega arith)))
            (line_from r.kept (omega arith) (omega arith) next-first next-second l.done);
        left = λ z lt no.
            same_then (r.left z lt (λ o lo e. no o (omega arith) e))
            (l.left z lt (λ e. no s (omega arith) (inl e)) (λ e. no s (omega arith) (inr e)));
      }

-- blocks of a table
module _ {w : List ℕ} {n b step k : ℕ} {w' : List ℕ} (m : BlocksMarked w n b step k w') (fits : step * 2 * k + step * 2 ≤ n) where
  pub blocks_more : {w'' : List ℕ} → RowsMarked w' n b (step * 2 * k) step step w'' → BlocksMarked w n b step (k + 1) w''
  blocks_more {w''} r =
      record {
        kept = kept_then m.kept r.kept;
        done = λ j o hj ho.
            below_more (λ i. LineMarked w n b (step * 2 * i + o) (step * 2 * i + step + o) w'') k
            (λ i hi.
            let e = line-end (step * 2) k i hi in
            line_then (m.done i o hi ho) (before (step * 2 * i + o) (omega arith)) (before (step * 2 * i + step + o) (omega arith)))
            (line_from m.kept (omega arith) (omega arith) (m.left (step * 2 * k + o) (omega arith) (omega arith))
            (m.left (step * 2 * k + step + o) (omega arith) (omega arith)) (r.done o ho))
            j hj;
        left = λ z le lt.
            let e : step * 2 * (k + 1) ≡ step * 2 * k + step * 2 = rw (add-one k) (mul-suc (step * 2) k) in
            same_then (m.left z (omega arith) lt) (r.left z lt (λ o ho q. ⊎_elim (λ a. omega arith) (λ a. omega arith) q));
      }
    where
      before : (x : ℕ) → x < step * 2 * k → Same w' n x w''
      before x h = r.left x (omega arith) (λ o ho q. ⊎_elim (λ a. omega arith) (λ a. omega arith) q)
