-- The extremes along the lines of a table, one for each line.
use Prim.Native.Nat.{ℕ, ◌+◌, ◌-◌, ◌*◌, ◌/◌, ◌%◌, ◌≤◌, ◌<◌}
use mathlib.Core.Path.{◌≡◌, sym, ◌∙◌, ap, ap₂}
use mathlib.Core.Bool.{Bool, true}
use mathlib.Core.List.{List}
use mathlib.Core.Logic.{◌⊎◌, ⊎_elim, inl, inr}
use native.Mathlib.Nat.{add-zero, mul_comm, mul_assoc, mul-suc, mul-zero, mul-one, one-mul, mul-le-mul_left, mul-le-mul_right, mod-lt}
use native.Mathlib.Numerals.{add-one}
use native.Mathlib.Omega.{arith}
use lib.ListN.{length}
use Rattle.rules.specs.Bytes.{at, tabulate}
use Rattle.rules.specs.Cell.{Positive, cells, card, step, singleton, without, remap, over, over_to, moved}
use Rattle.laws.proofs.CellLaws.{moved_at, div_below}
use Rattle.laws.proofs.LineLaws.{cells-without, remap-without}
use Rattle.laws.proofs.LoopLaws.{over-steps}
use Rattle.laws.proofs.TableLaws.{at-tabulate}
use Rattle.laws.proofs.TestLaws.{by_order}
use Rattle.laws.proofs.UnionLaws.{digit_mod, digit_div, digit-below}
use Rattle.tables.specs.Part.{part, Laid}
use Rattle.tables.specs.Line.{best, line_best, Blocks, line_extremes}
use Rattle.tables.proofs.PartLaws.{Filled, laid_same}
use Rattle.tables.proofs.LendLaws.{lent, back, lent_at, laid-back}
use Rattle.tables.proofs.LineLaws.{line_same, line_alike, line-table, best-bound}
use Rattle.tables.proofs.OverLaws.{Counted, blocks_some}

-- lines that start where nothing is written, or behind, are as they were
pub unpacked : (greatest : Bool) {w w' : List ℕ} {to n : ℕ} {f : ℕ → ℕ} (a step card : ℕ) → 0 < card → Filled w to f n w' → to + n ≤ a → line_best greatest w' a step card ≡ line_best greatest w a step card
unpacked greatest {w} {w'} a step card p l h = line_same greatest w w' a step card p (λ v hv. l.after (a + step * v) (omega arith))

-- the extreme along line q, by its place in its block
abbrev pub extreme : Bool → List ℕ → ℕ → ℕ → ℕ → ℕ → ℕ
extreme greatest w a step card q = line_best greatest w (a + (q % step + step * card * (q / step))) step card

module _ {w : List ℕ} {a to count step card : ℕ} (p : Blocks w a count step card) (h : to ≤ a) where
  -- before block b, b rows are written
  pub behind : (b : ℕ) → to + step * b ≤ a + step * card * b
  behind b =
      omega (
        arith,
        mul-le-mul_right (step * b) p.some,
        mul_assoc step card b,
        mul_assoc card step b,
        ap (λ (x : ℕ). x * b) (mul_comm step card),
      )

  -- a row is written where its block starts, or before it
  pub aside : (a ≡ to) ⊎ (to + step ≤ a) → (b : ℕ) → (a + step * card * b ≡ to + step * b) ⊎ (to + step * b + step ≤ a + step * card * b)
  aside q b =
      by_order 2 card
      (λ two.
      by_order 1 b
      (λ one. inr (omega (arith, cells, mul-le-mul_right (step * b) two, mul-le-mul_left step one, mul-one step)))
      (λ none. let z : b ≡ 0 = omega arith in start z (ap (λ (x : ℕ). step * card * x) z ∙ mul-zero (step * card))))
      (λ one. let k : card ≡ 1 = let s = p.some in omega arith in same (ap (λ (x : ℕ). step * x * b) k ∙ ap (λ (x : ℕ). x * b) (mul-one step)))
    where
      cells : card * (step * b) ≡ step * card * b
      cells = sym (mul_assoc card step b) ∙ ap (λ (x : ℕ). x * b) (mul_comm card step)

      same : step * card * b ≡ step * b → (a + step * card * b ≡ to + step * b) ⊎ (to + step * b + step ≤ a + step * card * b)
      same e = ⊎_elim (λ x. inl (omega arith)) (λ x. inr (omega arith)) q

      start : b ≡ 0 → step * card * b ≡ 0 → (a + step * card * b ≡ to + step * b) ⊎ (to + step * b + step ≤ a + step * card * b)
      start z e = same (e ∙ sym (ap (λ (x : ℕ). step * x) z ∙ mul-zero step))

  -- one block more
  pub packed_more : (greatest : Bool) {b : ℕ} {w' w'' : List ℕ} → b < count → Filled w to (extreme greatest w a step card) (step * b) w'
      → Laid w' (to + step * b) (tabulate step (λ o. line_best greatest w' (a + step * card * b + o) step card)) step w'' → Filled w to (extreme greatest w a step card) (step * (b + 1)) w''
  packed_more greatest {b} {w'} {w''} hb l m =
      record {
        len = m.len ∙ l.len;
        here = λ k lt. by_order (step * b) k (λ ge. new k ge lt) (λ lo. m.before (to + k) (omega arith) ∙ l.here k lo);
        before = λ j lt. m.before j (omega arith) ∙ l.before j lt;
        after = λ j lt. m.after j (omega (arith, size)) ∙ l.after j (omega (arith, size));
      }
    where
      size : step * (b + 1) ≡ step * b + step
      size = rw (add-one b) (mul-suc step b)

      new : (k : ℕ) → step * b ≤ k → k < step * (b + 1) → at w'' (to + k) ≡ extreme greatest w a step card k
      new k ge lt =
          let o = k - step * b in
          let ho : o < step = omega (arith, size) in
          let e : k ≡ o + step * b = omega arith in
          let i : to + k ≡ to + step * b + o = omega arith in
          let row : k % step ≡ o = ap (λ (x : ℕ). x % step) e ∙ digit_mod step o b ho in
          let number : k / step ≡ b = ap (λ (x : ℕ). x / step) e ∙ digit_div step o b ho in
          let j : a + step * card * b + o ≡ a + (o + step * card * b) = omega arith in
          ap (at w'') i ∙ m.here o ho ∙ at-tabulate step _ o ho
          ∙ unpacked greatest (a + step * card * b + o) step card p.some l (omega (arith, behind b))
          ∙ ap (λ (x : ℕ). line_best greatest w x step card) j
          ∙ ap₂ (λ (x y : ℕ). line_best greatest w (a + (x + step * card * y)) step card) (sym row) (sym number)

-- packed in a part of a buffer that is lent, and is the whole of it from the table's last byte down
pub packed_lent : (greatest : Bool) (w : List ℕ) (a from n : ℕ) {count step card : ℕ} {v : List ℕ} → Blocks w (a + from) count step card → n ≡ step * card * count
    → Laid (lent a (from + n) w) 0 (line_extremes greatest (lent a (from + n) w) from step card count) (step * count) v
    → Laid w a (line_extremes greatest w (a + from) step card count) (step * count) (back a (from + n) w v)
packed_lent greatest w a from n {count} {step} {card} {v} p e l =
    let b = laid-back a (from + n) (let i = p.inside in omega arith) (omega (arith, few)) l in
    laid_same _ (rw (add-zero a) at b)
    (λ q lt.
    at-tabulate (step * count) _ q lt
    ∙ line_alike greatest w (lent a (from + n) w) (a + from + (q % step + step * card * (q / step))) (from + (q % step + step * card * (q / step))) step card p.some (λ u hu. same q lt u hu)
    ∙ sym (at-tabulate (step * count) _ q lt))
  where
    few : step * count ≤ n
    few = omega (arith, mul-le-mul_right (step * count) p.some, mul_assoc card step count, ap (λ (x : ℕ). x * count) (mul_comm step card), one-mul (step * count))

    same : (q : ℕ) → q < step * count → (u : ℕ) → u < card
        → at (lent a (from + n) w) (from + (q % step + step * card * (q / step)) + step * u) ≡ at w (a + from + (q % step + step * card * (q / step)) + step * u)
    same q lt u hu =
        let i = from + (q % step + step * card * (q / step)) + step * u in
        let z : a + i ≡ a + from + (q % step + step * card * (q / step)) + step * u = omega arith in
        lent_at a (from + n) w i
        (omega (
          arith,
          digit-below (step * card) (q % step + step * u) (q / step) count (digit-below step (q % step) u card (mod-lt q p.steps) hu)
              (div_below q step count p.steps lt),
        ))
        ∙ ap (at w) z

-- there are no more lines than cells
pub packed_low : {ks : List ℕ} {i stp crd count : ℕ} → Counted ks i stp crd count → stp * count ≤ cells ks
packed_low {ks} {i} {stp} {crd} {count} n =
    omega (
      arith,
      n.all,
      mul-le-mul_right (stp * count) n.some,
      mul_assoc crd stp count,
      ap (λ (x : ℕ). x * count) (mul_comm stp crd),
    )

-- right behind a packed table as large, the table either starts or lies further on
pub packed_aside : {ks : List ℕ} {i stp crd count n : ℕ} → Counted ks i stp crd count → n ≡ cells ks → (n ≡ stp * count) ⊎ (stp * count + stp ≤ n)
packed_aside {ks} {i} {stp} {crd} {count} {n} c e =
    by_order 2 crd
    (λ two. inr (omega (arith, size, mul-le-mul_right (stp * count) two, one)))
    (λ one. let k : crd ≡ 1 = let s = c.some in omega arith in inl (e ∙ sym c.all ∙ ap (λ (x : ℕ). stp * x * count) k ∙ ap (λ (x : ℕ). x * count) (mul-one stp)))
  where
    size : crd * (stp * count) ≡ n
    size = sym (mul_assoc crd stp count) ∙ ap (λ (x : ℕ). x * count) (mul_comm crd stp) ∙ c.all ∙ sym e

    one : stp ≤ stp * count
    one = omega (arith, mul-le-mul_left stp (blocks_some c), mul-one stp)

-- they are the table over the places without the condition, of its extremes over it
module _ {ks : List ℕ} {i stp crd count : ℕ} (p : Positive ks) (h : i < length ks) (n : Counted ks i stp crd count) where
  pub packed_cells : stp * count ≡ cells (without (singleton i) ks)
  packed_cells = ap₂ (λ (x y : ℕ). x * y) n.step_is n.count-is ∙ sym (cells-without ks i h)

  pub packed_over : (greatest : Bool) {w w' : List ℕ} (a : ℕ) {to : ℕ} → Laid w to (line_extremes greatest w a stp crd count) (stp * count) w'
      → Laid w to (moved ks (without (singleton i) ks) (over (best greatest) ks (singleton i) (part w a (cells ks)))) (cells (without (singleton i) ks)) w'
  packed_over greatest {w} {w'} a {to} l =
      record {
        len = l.len;
        here = λ q lt. l.here q (let e = packed_cells in omega arith) ∙ at-tabulate (stp * count) _ q (let e = packed_cells in omega arith) ∙ here q lt;
        before = l.before;
        after = λ j lt. l.after j (let e = packed_cells in omega arith);
      }
    where
      b : List ℕ
      b = without (singleton i) ks

      f : List ℕ
      f = part w a (cells ks)

      here : (q : ℕ) → q < cells b → line_best greatest w (a + (q % stp + stp * crd * (q / stp))) stp crd ≡ at (moved ks b (over (best greatest) ks (singleton i) f)) q
      here q lt =
          let o = q % stp in
          let d = q / stp in
          let c = o + stp * crd * d in
          let ho : o < stp = mod-lt q n.steps in
          let hd : d < count = div_below q stp count n.steps (let e = packed_cells in omega arith) in
          let at_c : remap b ks q ≡ c = remap-without ks i q p h lt ∙ ap₂ (λ (x y : ℕ). q % x + x * y * (q / x)) (sym n.step_is) (sym n.card-is) in
          let inside : (u : ℕ) → u < crd → o + stp * crd * d + stp * u < cells ks =
          (λ u hu. omega (arith, n.all, digit-below (stp * crd) (o + stp * u) d count (digit-below stp o u crd ho hu) hd)) in
          let hc : c < cells ks = omega (arith, inside 0 n.some) in
          let z : a + (o + stp * crd * d) ≡ a + stp * crd * d + o = omega arith in
          ap (λ (x : ℕ). line_best greatest w x stp crd) z
          ∙ sym (line-table greatest w a (cells ks) stp crd c o 0 d ho n.some (omega (arith, mul-zero stp)) inside)
          ∙ ap₂ (λ (s k : ℕ). over_to (best greatest) (λ v. true) (λ v. at f (c % s + c / s / k * k * s + v * s)) (at f c) k) n.step_is n.card-is
          ∙ sym (over-steps (best-bound greatest) ks f i c p hc)
          ∙ ap (at (over (best greatest) ks (singleton i) f)) (sym at_c)
          ∙ sym (moved_at ks b (over (best greatest) ks (singleton i) f) q lt)
