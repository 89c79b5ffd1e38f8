-- Blocks of grades line by line, and tables block by block.
use Prim.Native.Nat.{ℕ, ◌+◌, ◌-◌, ◌*◌, ◌/◌, ◌%◌, ◌≤◌, ◌<◌}
use mathlib.Core.Path.{◌≡◌, sym, ◌∙◌, ap, subst}
use mathlib.Core.Bool.{Bool}
use mathlib.Core.List.{List}
use native.Mathlib.Omega.{arith}
use native.Mathlib.Numerals.{add-one}
use native.Mathlib.Nat.{le_refl, mul-suc, mod-lt, mod-add-div, one-mul, mul-le-mul_right, mul-div_cancel_left}
use borrow.Author.Count.{below_more}
use lib.ListN.{length, get_or}
use Rattle.rules.specs.Bytes.{at, tabulate}
use Rattle.laws.proofs.TestLaws.{by_order}
use Rattle.rules.specs.Cell.{card, step}
use Rattle.laws.proofs.CellLaws.{div_below, card_pos}
use Rattle.laws.proofs.LineLaws.{step_pos}
use Rattle.laws.proofs.LoopLaws.{card_read}
use Rattle.laws.proofs.TableLaws.{at-tabulate}
use Rattle.tables.specs.Part.{part, Laid}
use Rattle.tables.specs.Line.{line_best, Line, Spread, along_lines}
use Rattle.tables.proofs.PartLaws.{Filled}
use Rattle.tables.proofs.LineLaws.{line-end, line_same, line-table, lines_apart}
use Rattle.rows.specs.Grades.{source, Reads}
use Rattle.rows.specs.Blocks.{BlockSet, Several, Tables}
use Rattle.rows.proofs.GradesLaws.{unread, source-length}

-- one line of the block more
pub block_more : {greatest : Bool} {lent w : List ℕ} {from to step card s : ℕ} {w' : List ℕ} {f : ℕ → ℕ} {w'' : List ℕ} → 0 < card → Reads lent w from to (step * card) → s < step
    → BlockSet greatest (source lent w) from w to step card s w' → ((v : ℕ) → f v ≡ line_best greatest (source lent w') (from + s) step card)
    → Spread w' (to + s) step f card w'' → BlockSet greatest (source lent w) from w to step card (s + 1) w''
block_more {greatest} {lent} {w} {from} {to} {step} {card} {s} {w'} {f} {w''} some r h l e n =
    record {
      len = n.len ∙ l.len;
      done = λ o v lt hv.
          below_more (λ p. at w'' (to + p + step * v) ≡ line_best greatest (source lent w) (from + p) step card) s (λ p ps. other p v (omega arith) (λ q. omega arith) ∙ l.done p v ps hv)
          (n.on v hv ∙ e v ∙ line_same greatest (source lent w) (source lent w') (from + s) step card some grade) o lt;
      left = λ o v lt ho hv. other o v ho (λ q. omega arith) ∙ l.left o v (omega arith) ho hv;
      before = λ j lt. n.off j (λ u hu q. omega arith) ∙ l.before j lt;
      after = λ j lt. n.off j (λ u hu q. omega (arith, line-end step card u hu)) ∙ l.after j lt;
    }
  where
    other : (o v : ℕ) → o < step → (o ≡ s → ⊥) → at w'' (to + o + step * v) ≡ at w' (to + o + step * v)
    other o v ho ne = n.off (to + o + step * v) (λ u hu q. lines_apart to step o s v u ho h ne q)

    grade : (v : ℕ) → v < card → at (source lent w') (from + s + step * v) ≡ at (source lent w) (from + s + step * v)
    grade v hv =
        let i : from + (s + step * v) ≡ from + s + step * v = omega arith in
        let j : to + (s + step * v) ≡ to + s + step * v = omega arith in
        sym (ap (at (source lent w')) i)
        ∙ unread w' r l.before l.after (s + step * v) (omega (arith, line-end step card v hv)) (λ x q. ap (at w') j ∙ l.left s v (le_refl s) h hv ∙ sym (ap (at w) j))
        ∙ ap (at (source lent w)) i

-- a block of one line, filled at once
pub run-set : (greatest : Bool) {g : List ℕ} {from : ℕ} {w : List ℕ} {to size x : ℕ} {w' : List ℕ} → x ≡ line_best greatest g from 1 size → Laid w to (tabulate size (λ _. x)) size w'
    → BlockSet greatest g from w to 1 size 1 w'
run-set greatest {g} {from} {w} {to} {size} {x} {w'} e l =
    record {
      len = l.len;
      done = λ o v ho hv.
          let i : to + o + 1 * v ≡ to + v = omega (arith, one-mul v) in
          let j : from ≡ from + o = omega arith in
          ap (at w') i ∙ l.here v hv ∙ at-tabulate size _ v hv ∙ e ∙ ap (λ (a : ℕ). line_best greatest g a 1 size) j;
      left = λ o v h g. absurd (omega arith);
      before = l.before;
      after = λ j h. l.after j (omega (arith, one-mul size));
    }

-- n cells in blocks, few of them
pub record InBlocks (step card count n : ℕ) : Type 0 where
  pub steps : 0 < step
  pub some : 0 < card
  pub size : 0 < step * card
  pub all : n ≡ step * card * count
  pub low : step * card ≤ n
  pub few : n ≤ 1024
  pub fewer : count ≤ 1024

pub counted : {size n : ℕ} (p : Several size n) → n / size ≡ p.count
counted {size} p = ap (λ (x : ℕ). x / size) p.all ∙ mul-div_cancel_left p.count p.some

pub count-few : {size n : ℕ} → Several size n → n / size ≤ 1024
count-few {size} {n} p = let e = p.all in let q = counted p in let f = p.few in omega (arith, mul-le-mul_right p.count p.some, one-mul p.count)

in_blocks : {step card n : ℕ} → 0 < step → 0 < card → Several (step * card) n → InBlocks step card (n / (step * card)) n
in_blocks {step} {card} {n} hs hc p =
    record {
      steps = hs;
      some = hc;
      size = p.some;
      all = p.all ∙ ap (λ (x : ℕ). step * card * x) (sym (counted p));
      low = let e = p.all in omega (arith, line-end (step * card) p.count 0 p.more);
      few = p.few;
      fewer = count-few p;
    }

-- those of the lines of condition i, and those of runs
pub along_blocks : {ks : List ℕ} {i n : ℕ} (stp crd : ℕ) → i < length ks → Tables ks i (step ks i * card ks i) n → stp ≡ step ks i → crd ≡ get_or ks i 0 → InBlocks stp crd (n / (stp * crd)) n
along_blocks {ks} {i} {n} stp crd h t es ec = rw (es, ec ∙ card_read ks i h) (in_blocks (step_pos ks i t.positive) (card_pos ks i t.positive) t.several)

pub run_blocks : {size n : ℕ} → Several size n → InBlocks 1 size (n / size) n
run_blocks {size} {n} p = subst (λ (x : ℕ). InBlocks 1 size (n / x) n) (one-mul size) (in_blocks (omega arith) p.some (subst (λ (x : ℕ). Several x n) (sym (one-mul size)) p))

module _ {step card count n : ℕ} (p : InBlocks step card count n) {b : ℕ} (h : b < count) where
  pub block-end : step * card * b + step * card ≤ n
  block-end = let e = p.all in omega (arith, line-end (step * card) count b h)

  -- one block more
  pub blocks_more : {greatest : Bool} {lent w : List ℕ} {from to : ℕ} {w' w'' : List ℕ} → Reads lent w from to n
      → Filled w to (at (along_lines greatest (part (source lent w) from n) step card count)) (step * card * b) w'
      → BlockSet greatest (source lent w') (from + step * card * b) w' (to + step * card * b) step card step w''
      → Filled w to (at (along_lines greatest (part (source lent w) from n) step card count)) (step * card * (b + 1)) w''
  unfolding along_lines
  blocks_more {greatest} {lent} {w} {from} {to} {w'} {w''} r l s =
      record {
        len = s.len ∙ l.len;
        here = λ k lt. by_order base k (λ ge. new k ge lt) (λ lo. s.before (to + k) (omega arith) ∙ l.here k lo);
        before = λ j lt. s.before j (omega arith) ∙ l.before j lt;
        after = λ j lt. s.after j (omega (arith, size)) ∙ l.after j (omega (arith, size));
      }
    where
      base : ℕ
      base = step * card * b

      size : step * card * (b + 1) ≡ step * card * b + step * card
      size = rw (add-one b) (mul-suc (step * card) b)

      grade : (o : ℕ) → o < step → (u : ℕ) → u < card → at (source lent w') (from + base + o + step * u) ≡ at (source lent w) (from + base + o + step * u)
      grade o ho u hu =
          let i : from + (base + o + step * u) ≡ from + base + o + step * u = omega arith in
          sym (ap (at (source lent w')) i)
          ∙ unread w' r l.before (λ j le. l.after j (omega (arith, block-end))) (base + o + step * u) (omega (arith, block-end, line-end step card u hu))
          (λ s q. l.after (to + (base + o + step * u)) (omega arith))
          ∙ ap (at (source lent w)) i

      new : (k : ℕ) → base ≤ k → k < step * card * (b + 1) → at w'' (to + k) ≡ at (along_lines greatest (part (source lent w) from n) step card count) k
      new k ge lt =
          let d = k - base in
          let o = d % step in
          let v = d / step in
          let ho : o < step = mod-lt d p.steps in
          let hv : v < card = div_below d step card p.steps (omega (arith, size)) in
          let e : k ≡ o + step * v + base = omega (arith, mod-add-div d step) in
          let i : to + k ≡ to + base + o + step * v = omega arith in
          ap (at w'') i
          ∙ s.done o v ho hv
          ∙ line_same greatest (source lent w) (source lent w') (from + base + o) step card p.some (grade o ho)
          ∙ sym (line-table greatest (source lent w) from n step card k o v b ho hv e (λ u hu. omega (arith, line-end step card u hu, block-end)))
          ∙ sym (at-tabulate (step * card * count) _ k (let q = p.all in omega (arith, size, block-end)))

-- a table of extremes along lines, by the step and the cardinality as they are counted
pub along_as : (greatest : Bool) (g w : List ℕ) (to n : ℕ) {stp crd s k : ℕ} {w' : List ℕ} → stp ≡ s → crd ≡ k → Laid w to (along_lines greatest g stp crd (n / (stp * crd))) n w'
    → Laid w to (along_lines greatest g s k (n / (s * k))) n w'
along_as greatest g w to n {stp} {crd} {s} {k} {w'} es ek l =
    subst (λ (x : ℕ). Laid w to (along_lines greatest g s x (n / (s * x))) n w') ek (subst (λ (x : ℕ). Laid w to (along_lines greatest g x crd (n / (x * crd))) n w') es l)

-- run b, and its line of grades
module _ {size n b : ℕ} (p : Several size n) (h : b < n / size) where
  pub run_end : size * b + size ≤ n
  run_end = let e = p.all in let q = counted p in omega (arith, line-end size p.count b (omega arith))

  pub run-line : {lent w : List ℕ} {from to : ℕ} → Reads lent w from to n → (w' : List ℕ) → length w' ≡ length w → Line (source lent w') (from + size * b) 1 size
  run-line {lent} {w} r w' e =
      record { steps = omega arith; some = p.some; inside = λ v hv. let i = r.src in omega (arith, run_end, one-mul v, source-length lent w w' e) }

-- one run more
pub runs_more : {greatest : Bool} {size n b : ℕ} {lent w : List ℕ} {from to : ℕ} {w' w'' : List ℕ} → Several size n → b < n / size → Reads lent w from to n
    → Filled w to (at (along_lines greatest (part (source lent w) from n) 1 size (n / size))) (size * b) w'
    → BlockSet greatest (source lent w') (from + size * b) w' (to + size * b) 1 size 1 w''
    → Filled w to (at (along_lines greatest (part (source lent w) from n) 1 size (n / size))) (size * (b + 1)) w''
runs_more {greatest} {size} {n} {b} {lent} {w} {from} {to} {w'} {w''} p h r =
    subst
    (λ (x : ℕ).
    Filled w to (at (along_lines greatest (part (source lent w) from n) 1 size (n / size))) (x * b) w' → BlockSet greatest (source lent w') (from + x * b) w' (to + x * b) 1 size 1 w''
    → Filled w to (at (along_lines greatest (part (source lent w) from n) 1 size (n / size))) (x * (b + 1)) w'')
    (one-mul size) (blocks_more (run_blocks p) h r)
