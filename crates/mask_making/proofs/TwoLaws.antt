-- A condition of two values, whose lines are marked: each cell is then marked by its extremes.
use Prim.Native.Nat.{ℕ, ◌+◌, ◌-◌, ◌*◌, ◌/◌, ◌%◌, ◌≤◌, ◌<◌, min, max}
use mathlib.Core.Path.{◌≡◌, refl, sym, ◌∙◌, ap, ap₂, subst}
use mathlib.Core.Bool.{Bool, true, false}
use mathlib.Core.List.{List}
use native.Mathlib.Nat.{zero-add, mul-one, mod-lt, mod-add-div}
use native.Mathlib.Omega.{arith}
use borrow.Author.Tests.{ltb-true, ltb-false, lt-ltb, le-ltb}
use lib.Dec.{ltb}
use lib.ListN.{length}
use Rattle.rules.specs.Bytes.{at}
use Rattle.rules.specs.Cell.{Positive, cells, card, step, singleton, over_to, over}
use Rattle.laws.proofs.CellLaws.{div_below}
use Rattle.laws.proofs.LoopLaws.{over-steps}
use Rattle.laws.proofs.TestLaws.{by_order}
use Rattle.tables.specs.Line.{best, Counts}
use Rattle.tables.specs.Part.{part}
use Rattle.tables.proofs.LineLaws.{best-bound, best-two, line-end, line-table}
use Rattle.tables.proofs.PartLaws.{part_at}
use Rattle.rows.specs.Blocks.{Several}
use Rattle.rows.proofs.BlockLaws.{run_blocks, run_end}
use Rattle.extremes.proofs.WalkLaws.{whole-along}
use Rattle.masks.specs.Masks.{above_least, below_greatest}
use Rattle.mask_making.specs.Making.{Space}
use Rattle.mask_making.specs.Marking.{CellMarked, Beside, BlocksMarked, Marked}
use Rattle.mask_making.proofs.PairLaws.{cell_as}

-- of two numbers, whichever is first
best-turn : (greatest : Bool) (x y : ℕ) → best greatest x y ≡ best greatest y x
best-turn true x y = omega arith
best-turn false x y = omega arith

-- a cell's own limits, in order, never refuse
below-least : (l u v : ℕ) → l ≤ u → ltb v l ≡ ltb (min u v) l
below-least l u v h = go (ltb v l) refl
  where
    go : (t : Bool) → ltb v l ≡ t → t ≡ ltb (min u v) l
    go true e = sym (lt-ltb (min u v) l (omega (arith, ltb-true v l e)))
    go false e = sym (le-ltb (min u v) l (omega (arith, ltb-false v l e)))

above-greatest : (u l k : ℕ) → l ≤ u → ltb u k ≡ ltb u (max l k)
above-greatest u l k h = go (ltb u k) refl
  where
    go : (t : Bool) → ltb u k ≡ t → t ≡ ltb u (max l k)
    go true e = sym (lt-ltb u (max l k) (omega (arith, ltb-true u k e)))
    go false e = sym (le-ltb u (max l k) (omega (arith, ltb-false u k e)))

-- the extreme over a condition, by its step and its cardinality as they are counted
over-counted : (greatest : Bool) (ks f : List ℕ) (i x stp crd : ℕ) → Positive ks → x < cells ks → stp ≡ step ks i → crd ≡ card ks i
    → at (over (best greatest) ks (singleton i) f) x
    ≡ over_to (best greatest) (λ u. true) (λ u. at f (x % stp + x / stp / crd * crd * stp + u * stp)) (at f x) crd
over-counted greatest ks f i x stp crd p h es ec = rw (es, ec) (over-steps (best-bound greatest) ks f i x p h)

module _ {w ks : List ℕ} {n i stp : ℕ} (s : Space w ks n) (c : Counts ks i n stp) (two : card ks i ≡ 2) where
  -- the extremes over the condition at x, of the tables at any part, are those of x and y
  abbrev Mate : ℕ → ℕ → Type 0
  Mate x y =
      (greatest : Bool) (a : ℕ) → at (over (best greatest) ks (singleton i) (part w a n)) x ≡ best greatest (at w (a + x)) (at w (a + y))

  -- so it is for the two cells of line o of block k
  module _ (k o : ℕ) (ho : o < stp) (fits : stp * 2 * k + stp * 2 ≤ n) where
    abbrev first : ℕ
    first = stp * 2 * k + o

    abbrev second : ℕ
    second = stp * 2 * k + stp + o

    extreme : (greatest : Bool) (a x v : ℕ) → v < 2 → x ≡ o + stp * v + stp * 2 * k
        → at (over (best greatest) ks (singleton i) (part w a n)) x ≡ best greatest (at w (a + first)) (at w (a + second))
    extreme greatest a x v hv e =
        let one : a + stp * 2 * k + o ≡ a + first = omega arith in
        let other : a + stp * 2 * k + o + stp ≡ a + second = omega arith in
        let lt : x < cells ks = let q = c.count in omega (arith, inside v hv) in
        over-counted greatest ks (part w a n) i x stp 2 s.shaped.some lt c.step_is (sym two)
        ∙ line-table greatest w a n stp 2 x o v k ho hv e inside
        ∙ sym (best-two greatest w (a + stp * 2 * k + o) stp)
        ∙ ap₂ (λ (p q : ℕ). best greatest (at w p) (at w q)) one other
      where
        inside : (u : ℕ) → u < 2 → o + stp * 2 * k + stp * u < n
        inside u hu = omega (arith, line-end stp 2 u hu)

    first_mate : Mate first second
    first_mate greatest a = extreme greatest a first 0 (omega arith) (omega arith)

    second_mate : Mate second first
    second_mate greatest a =
        extreme greatest a second 1 (omega arith) (omega (arith, mul-one stp)) ∙ best-turn greatest (at w (a + first)) (at w (a + second))

  -- cell x, marked by the extremes
  abbrev Cell : ℕ → ℕ → List ℕ → Type 0
  Cell b x w' = CellMarked w n b x (above_least ks (part w 0 n) (part w n n) i x) (below_greatest ks (part w 0 n) (part w n n) i x) w'

  -- that is what it is if it is marked beside y
  beside_cell : {b x : ℕ} (y : ℕ) {w' : List ℕ} → x < n → Mate x y → Beside w n b x y w' → Cell b x w'
  unfolding above_least below_greatest
  beside_cell {b} {x} y hx e m =
      let z = zero-add x in
      cell_as
      (below-least (at w x) (at w (n + x)) (at w (n + y)) (s.ordered x hx)
      ∙ sym (ap₂ ltb (e false n) (part_at w 0 n x hx ∙ ap (at w) z)))
      (above-greatest (at w (n + x)) (at w x) (at w y) (s.ordered x hx)
      ∙ sym (ap₂ ltb (part_at w n n x hx) (e true 0 ∙ ap₂ (λ (p q : ℕ). max (at w p) (at w q)) z (zero-add y))))
      m

  -- the blocks of the condition, and all of them marked
  pub two_blocks : length ks ≡ 8 → Several (stp * 2) n
  two_blocks long =
      subst (λ (x : ℕ). Several x n) (ap₂ (λ (x y : ℕ). x * y) (sym c.step_is) two)
      (whole-along s.shaped (let p = c.place in omega arith) c.place s.own).several

  pub two-marked : {b : ℕ} {w' : List ℕ} → Several (stp * 2) n → BlocksMarked w n b stp (n / (stp * 2)) w' → Marked w ks i n b w'
  two-marked {b} {w'} p m = record { kept = m.kept; cell = λ x hx. go x hx }
    where
      size : ℕ
      size = stp * 2

      here : {x y : ℕ} → x ≡ y → Cell b x w' → Cell b y w'
      here e m = subst (λ (z : ℕ). Cell b z w') e m

      go : (x : ℕ) → x < n → Cell b x w'
      go x hx =
          let k = x / size in
          let d = x % size in
          let hd : d < size = mod-lt x p.some in
          let e : d + size * k ≡ x = mod-add-div x size in
          let hk : k < n / size = div_below x size (n / size) p.some (let q = (run_blocks p).all in omega arith) in
          let fits : size * k + size ≤ n = run_end p hk in
          by_order stp d
          (λ ge.
          let o = d - stp in
          let ho : o < stp = omega arith in
          let f : size * k + stp + o ≡ x = omega arith in
          here f (beside_cell (size * k + o) (omega arith) (second_mate k o ho fits) (m.done k o hk ho).two))
          (λ lt.
          let f : size * k + d ≡ x = omega arith in
          here f (beside_cell (size * k + stp + d) (omega arith) (first_mate k d lt fits) (m.done k d hk lt).one))
