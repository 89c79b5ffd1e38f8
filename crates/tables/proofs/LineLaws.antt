-- Extremes along lines, as loops find them.
use Prim.Native.Nat.{ℕ, zero, suc, ◌+◌, ◌*◌, ◌/◌, ◌%◌, ◌≤◌, ◌<◌}
use mathlib.Core.Path.{◌≡◌, refl, sym, ◌∙◌, ap, ap₂, subst}
use mathlib.Core.Bool.{Bool, true, false}
use mathlib.Core.List.{List}
use mathlib.Core.Logic.{⊎_elim}
use native.Mathlib.Omega.{arith}
use native.Mathlib.Numerals.{add-one}
use native.Mathlib.Nat.{mul-one, mul_comm, mul_assoc, mul-add, mul-le-mul_left, mul-suc}
use borrow.Author.Count.{below_more}
use lib.ListN.{length, set, length-set}
use lib.Seq.{get_or-set_same, get_or-set_other}
use Rattle.rules.specs.Bytes.{at}
use Rattle.rules.specs.Cell.{over_to}
use Rattle.laws.proofs.OverLaws.{Bound, max-bound, min-bound, over_to-at, over_to-both}
use Rattle.laws.proofs.UnionLaws.{digit_mod, digit_div, digit-below}
use Rattle.tables.specs.Part.{part, Apart}
use Rattle.tables.specs.Line.{best, order, line_best, Line, Spread, Block, Blocks}
use Rattle.tables.proofs.PartLaws.{part_at}

-- equal bytes have equal extremes
pub over-along : (op : ℕ → ℕ → ℕ) (f g : ℕ → ℕ) (a b n : ℕ) → a ≡ b → ((v : ℕ) → v < n → f v ≡ g v) → over_to op (λ u. true) f a n ≡ over_to op (λ u. true) g b n
over-along op f g a b zero e h = e
over-along op f g a b (suc n) e h = ap₂ op (over-along op f g a b n e (λ v l. h v (omega arith))) (h n (omega arith))

pub best-bound : (greatest : Bool) → Bound (best greatest) (order greatest)
best-bound true = max-bound
best-bound false = min-bound

-- a line of no cell but its first, and one of one more
pub best_none : (greatest : Bool) (w : List ℕ) (a step : ℕ) → at w a ≡ line_best greatest w a step 0
unfolding line_best
best_none greatest w a step = refl

pub best-more : (greatest : Bool) (w : List ℕ) (a step v x : ℕ) → x ≡ line_best greatest w a step v → best greatest x (at w (a + step * v)) ≡ line_best greatest w a step (v + 1)
unfolding line_best
best-more greatest w a step v x e = rw (add-one v) (ap (λ (y : ℕ). best greatest y (at w (a + step * v))) e)

best-same : (greatest : Bool) (x : ℕ) → best greatest x x ≡ x
best-same greatest x = let B = best-bound greatest in sym (B.anti (B.left x x) (B.both (B.self x) (B.self x)))

-- a line of one cell, and one of two
pub best-one : (greatest : Bool) (w : List ℕ) (a step : ℕ) → at w a ≡ line_best greatest w a step 1
best-one greatest w a step =
    let z : a + step * 0 ≡ a = omega arith in
    sym (best-same greatest (at w a)) ∙ ap (λ (i : ℕ). best greatest (at w a) (at w i)) (sym z) ∙ best-more greatest w a step 0 (at w a) (best_none greatest w a step)

pub best-two : (greatest : Bool) (w : List ℕ) (a step : ℕ) → best greatest (at w a) (at w (a + step)) ≡ line_best greatest w a step 2
best-two greatest w a step =
    let z : a + step * 1 ≡ a + step = omega arith in
    ap (λ (i : ℕ). best greatest (at w a) (at w i)) (sym z) ∙ best-more greatest w a step 1 (at w a) (best-one greatest w a step)

-- of card steps, step v and all before it lie below the end
pub line-end : (step card v : ℕ) → v < card → step * v + step ≤ step * card
line-end step card v h = omega (arith, mul-le-mul_left step h, mul-suc step v)

pub spread_none : (w : List ℕ) (a step : ℕ) (f : ℕ → ℕ) → Spread w a step f 0 w
spread_none w a step f = record { len = refl; on = λ v h. absurd (omega arith); off = λ j h. refl }

-- one byte more
pub spread_more : {w : List ℕ} {a step : ℕ} {f : ℕ → ℕ} {v : ℕ} {w' : List ℕ} (x : ℕ) → Spread w a step f v w' → 0 < step → a + step * v < length w → x ≡ f v
    → Spread w a step f (v + 1) (set w' (a + step * v) x)
spread_more {w} {a} {step} {f} {v} {w'} x l p h e =
    record {
      len = length-set w' (a + step * v) x ∙ l.len;
      on =
          below_more (λ u. at (set w' (a + step * v) x) (a + step * u) ≡ f u) v
          (λ u lt. get_or-set_other w' (a + step * v) (a + step * u) x 0 (λ q. omega (arith, line-end step v u lt)) ∙ l.on u lt)
          (get_or-set_same w' (a + step * v) x 0 (let n = l.len in omega arith) ∙ e);
      off = λ j no. get_or-set_other w' (a + step * v) j x 0 (λ q. no v (omega arith) q) ∙ l.off j (λ u lt e. no u (omega arith) e);
    }

pub block-line : {w : List ℕ} {a step card : ℕ} (w' : List ℕ) (o : ℕ) → Block w a step card → length w' ≡ length w → o < step → Line w' (a + o) step card
block-line {w} {a} {step} {card} w' o b e h =
    record { steps = omega arith; some = b.some; inside = λ v lt. let i = b.inside in omega (arith, line-end step card v lt) }

pub line-start : {w : List ℕ} {a step card : ℕ} → Line w a step card → a < length w
line-start l = omega (arith, l.inside 0 l.some)

-- the second cell of a line of two, and both filled
pub line_second : {w : List ℕ} {a step card : ℕ} → Line w a step card → card ≡ 2 → a + step < length w
line_second {w} {a} {step} l e = omega (arith, l.inside 1 (omega arith), mul-one step)

pub spread_two : {w : List ℕ} {a step card : ℕ} (x : ℕ) → Line w a step card → card ≡ 2 → Spread w a step (λ _. x) 2 (set (set w a x) (a + step) x)
spread_two {w} {a} {step} x l e =
    let z : a + step * 0 ≡ a = omega arith in
    let i : a + step * 1 ≡ a + step = omega (arith, mul-one step) in
    let s = spread_more x (spread_none w a step (λ _. x)) l.steps (omega (arith, line-start l)) refl in
    let t = spread_more x s l.steps (omega (arith, line_second l e)) refl in
    subst (λ (j : ℕ). Spread w a step (λ _. x) 2 (set (set w j x) (a + step) x)) z (subst (λ (j : ℕ). Spread w a step (λ _. x) 2 (set (set w (a + step * 0) x) j x)) i t)

-- two lines of a block have no cell in common
pub lines_apart : (a step o p v u : ℕ) → o < step → p < step → (o ≡ p → ⊥) → a + o + step * v ≡ a + p + step * u → ⊥
lines_apart a step o p v u h g ne e =
    let q : o + step * v ≡ p + step * u = omega arith in
    ne (sym (digit_mod step o v h) ∙ ap (λ (x : ℕ). x % step) q ∙ digit_mod step p u g)

-- lines with the same bytes, in two buffers; and at the same place
pub line_alike : (greatest : Bool) (w w' : List ℕ) (a b step card : ℕ) → 0 < card → ((v : ℕ) → v < card → at w' (b + step * v) ≡ at w (a + step * v))
    → line_best greatest w' b step card ≡ line_best greatest w a step card
unfolding line_best
line_alike greatest w w' a b step card p h =
    over-along (best greatest) (λ v. at w' (b + step * v)) (λ v. at w (a + step * v)) (at w' b) (at w a) card
    (let y : b + step * 0 ≡ b = omega arith in let z : a + step * 0 ≡ a = omega arith in sym (ap (at w') y) ∙ h 0 p ∙ ap (at w) z) h

pub line_same : (greatest : Bool) (w w' : List ℕ) (a step card : ℕ) → 0 < card → ((v : ℕ) → v < card → at w' (a + step * v) ≡ at w (a + step * v)) → line_best greatest w' a step card ≡ line_best greatest w a step card
line_same greatest w w' a step card p h = line_alike greatest w w' a a step card p h

-- the extreme of some numbers is the same from whichever of them it starts
seed_any : (greatest : Bool) (f : ℕ → ℕ) (i j n : ℕ) → i < n → j < n → over_to (best greatest) (λ u. true) f (f i) n ≡ over_to (best greatest) (λ u. true) f (f j) n
seed_any greatest f i j n hi hj = B.anti (half i j hi) (half j i hj)
  where
    B : Bound (best greatest) (order greatest)
    B = best-bound greatest

    half : (i j : ℕ) → i < n → order greatest (over_to (best greatest) (λ u. true) f (f i) n) (over_to (best greatest) (λ u. true) f (f j) n)
    half i j h = over_to-both B (λ u. true) f (f i) _ n (over_to-at B (λ u. true) f (f j) n i h tt) (λ d hd t. over_to-at B (λ u. true) f (f j) n d hd tt)

-- cell k of a table at a, cell v of line o of block b: its line in the table is the line in the buffer
pub line-table : (greatest : Bool) (w : List ℕ) (a n step card k o v b : ℕ) → o < step → v < card → k ≡ o + step * v + step * card * b
    → ((u : ℕ) → u < card → o + step * card * b + step * u < n)
    → over_to (best greatest) (λ u. true) (λ u. at (part w a n) (k % step + k / step / card * card * step + u * step)) (at (part w a n) k) card
    ≡ line_best greatest w (a + step * card * b + o) step card
unfolding line_best
line-table greatest w a n step card k o v b ho hv e inside =
    over-along (best greatest) _ G (at (part w a n) k) (G v) card
    (part_at w a n k (omega (arith, inside v hv)) ∙ (let q : a + k ≡ a + step * card * b + o + step * v = omega arith in ap (at w) q))
    (λ u hu. ap (at (part w a n)) (index u) ∙ part_at w a n _ (inside u hu) ∙ (let q : a + (o + step * card * b + step * u) ≡ a + step * card * b + o + step * u = omega arith in ap (at w) q))
    ∙ seed_any greatest G v 0 card hv (omega arith)
    ∙ over-along (best greatest) G G (G 0) (at w (a + step * card * b + o)) card
    (let q : a + step * card * b + o + step * 0 ≡ a + step * card * b + o = omega arith in ap (at w) q) (λ u hu. refl)
  where
    G : ℕ → ℕ
    G u = at w (a + step * card * b + o + step * u)

    digits : k ≡ o + step * (v + card * b)
    digits = omega (arith, mul-add step v (card * b), mul_assoc step card b)

    low : k % step ≡ o
    low = ap (λ (x : ℕ). x % step) digits ∙ digit_mod step o (v + card * b) ho

    high : k / step / card ≡ b
    high = ap (λ (x : ℕ). x / card) (ap (λ (x : ℕ). x / step) digits ∙ digit_div step o (v + card * b) ho) ∙ digit_div card v b hv

    index : (u : ℕ) → k % step + k / step / card * card * step + u * step ≡ o + step * card * b + step * u
    index u =
        ap₂ (λ (x y : ℕ). x + y * card * step + u * step) low high
        ∙ ap₂ (λ (x y : ℕ). o + x + y) (mul_comm (b * card) step ∙ ap (λ (x : ℕ). step * x) (mul_comm b card) ∙ sym (mul_assoc step card b)) (mul_comm u step)

pub block_in : {w : List ℕ} {a count step card : ℕ} (w' : List ℕ) (b : ℕ) → Blocks w a count step card → length w' ≡ length w → b < count → Block w' (a + step * card * b) step card
block_in {w} {a} {count} {step} {card} w' b p e h = record { some = p.some; inside = let i = p.inside in omega (arith, line-end (step * card) count b h) }

-- what is read at the other part of a spread is what stood there
pub read_spread : {w : List ℕ} {from m to step n k : ℕ} {f : ℕ → ℕ} {c : ℕ} {w' : List ℕ} → Apart w from m to (step * n) → k < step → Spread w (to + k) step f c w' → c ≤ n
    → (j : ℕ) → j < m → at w' (from + j) ≡ at (part w from m) j
read_spread {w} {from} {m} {to} {step} {n} {k} p h l g j lt =
    l.off (from + j)
    (λ v hv e.
    let in-n : k + step * v < step * n = digit-below step k v n h (omega arith) in
    ⊎_elim (λ q. omega arith) (λ q. omega arith) p.apart)
    ∙ sym (part_at w from m j lt)
