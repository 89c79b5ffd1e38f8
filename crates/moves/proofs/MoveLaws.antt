-- Tables moved to other places, run by run.
use Prim.Native.Nat.{ℕ, ◌+◌, ◌-◌, ◌*◌, ◌/◌, ◌%◌, ◌≤◌, ◌<◌}
use mathlib.Core.Path.{◌≡◌, refl, sym, ◌∙◌, ap, ap₂}
use mathlib.Core.Bool.{Bool, true, false, not, false≢true}
use mathlib.Core.List.{List, ◌++◌}
use mathlib.Core.Logic.{inl, inr, ⊎_elim}
use native.Mathlib.Omega.{arith}
use native.Mathlib.Nat.{mul-zero, mul-suc, mul-div_cancel_left}
use native.Mathlib.Numerals.{add-one}
use borrow.Author.Tests.{ne_eqb}
use lib.Dec.{eqb}
use lib.ListN.{length, get_or, drop, get_or-append}
use lib.Seq.{get_or-append-add}
use Rattle.rules.specs.Bytes.{pick, at, tabulate}
use Rattle.rules.specs.Cell.{cells, step, value, remap, moved}
use Rattle.laws.proofs.CellLaws.{cell_lt}
use Rattle.laws.proofs.LineLaws.{step_pos}
use Rattle.laws.proofs.LoopLaws.{step_start, step_le, step-more}
use Rattle.laws.proofs.MoveLaws.{remap-first, reads_none, same_more, other-more, Turns, turns_take, turns_stop, turns_more, turns_skip}
use Rattle.laws.proofs.NumberLaws.{card-positive}
use Rattle.laws.proofs.TableLaws.{at-tabulate, length-tabulate_from}
use Rattle.laws.proofs.TestLaws.{by_order, by_equal}
use Rattle.moves.specs.declared.Run.{Run}
use Rattle.tables.specs.Part.{part, Laid, Apart, Shaped}
use Rattle.moves.specs.Move.{remap_from, EndsRun, Runs, together, room, Moving}
use Rattle.tables.proofs.PartLaws.{Filled, read_part, filled_laid}
use Rattle.tables.proofs.LineLaws.{line-end}
use Rattle.tables.proofs.OverLaws.{step-rest}

abbrev pub run : ℕ → ℕ → ℕ → Run
run places cells first = record { places = places; cells = cells; first = first }

module _ {a b : List ℕ} {along : Bool} {u : Run} (x : Runs a b along u) where
  pub runs_some : Shaped b → 0 < u.cells
  runs_some p = rw x.cells_is (step_pos b u.places p.some)

  pub runs_low : Shaped b → u.cells ≤ 1024
  runs_low p = let few = p.few in omega (arith, x.cells_is, step_le b u.places p.some)

  pub runs_first-low : Shaped a → u.first ≤ 1024
  runs_first-low p = let few = p.few in omega (arith, x.first-is, step_le a u.places p.some)

-- a const parameter as a test
abbrev pub flag : ℕ → Bool
flag n = not (eqb n 0)

pub flag_on : (n : ℕ) → (n ≡ 0 → ⊥) → flag n ≡ true
flag_on n h = ap not (ne_eqb n 0 h)

pub flag_off : (n : ℕ) → n ≡ 0 → flag n ≡ false
flag_off n e = ap flag e

-- the run of the lowest n places
pub record Growing (a b : List ℕ) (along : Bool) (n : ℕ) (u : Run) : Type 0 where
  pub places_is : u.places ≡ n
  pub run_is : Runs a b along u
  pub even : along ≡ true → u.first ≡ u.cells

-- of no place
pub growing_none : (along : Bool) (a b : List ℕ) → Growing a b along 0 (run 0 1 1)
growing_none along a b =
    record {
      places_is = refl;
      run_is = record { few = omega arith; cells_is = sym (step_start b); first-is = sym (step_start a); reads = reads_none along b a };
      even = λ _. refl;
    }

-- of one place more
module _ {a b : List ℕ} {n : ℕ} {u : Run} (q : Shaped a) (p : Shaped b) (h : n < 8) (ha : n < length a) (hb : n < length b) where
  grown : (along : Bool) → Growing a b along n u → (along ≡ true → u.first * get_or a n 0 ≡ u.cells * get_or b n 0)
      → ((r o : ℕ) → o < u.cells * get_or b n 0 → remap b a (o + u.cells * get_or b n 0 * r) ≡ pick along o 0 + u.first * get_or a n 0 * remap_from (n + 1) b a r)
      → Growing a b along (n + 1) (run (u.places + 1) (u.cells * get_or b n 0) (u.first * get_or a n 0))
  grown along x even reads =
      let r = x.run_is in
      let e = x.places_is in
      let next : u.places + 1 ≡ n + 1 = omega arith in
      record {
        places_is = next;
        run_is =
            record {
              few = omega arith;
              cells_is = step-more b n u.cells hb (r.cells_is ∙ ap (step b) e) ∙ ap (step b) (sym next);
              first-is = step-more a n u.first ha (r.first-is ∙ ap (step a) e) ∙ ap (step a) (sym next);
              reads = λ r o lt. reads r o lt ∙ ap (λ (i : ℕ). pick along o 0 + u.first * get_or a n 0 * remap_from i b a r) (sym next);
            };
        even = even;
      }

  read : (along : Bool) → Growing a b along n u → (r o : ℕ) → o < u.cells → remap b a (o + u.cells * r) ≡ pick along o 0 + u.first * remap_from n b a r
  read along x r o lt = x.run_is.reads r o lt ∙ ap (λ (i : ℕ). pick along o 0 + u.first * remap_from i b a r) x.places_is

  pub growing_more : (along : Bool) → (EndsRun along (get_or b n 0) (get_or a n 0) → ⊥) → Growing a b along n u → Growing a b along (n + 1) (run (u.places + 1) (u.cells * get_or b n 0) (u.first * get_or a n 0))
  growing_more true keep x =
      by_equal (get_or b n 0) (get_or a n 0)
      (λ e. grown true x (λ _. ap₂ (λ (x y : ℕ). x * y) (x.even refl) (sym e)) (same_more b a n u.first hb ha u.cells (runs_some x.run_is p) (x.even refl) e (read true x)))
      (λ ne. absurd (keep ne))
  growing_more false keep x =
      grown false x (λ f. absurd (false≢true f))
      (other-more b a n u.first hb ha u.cells (runs_some x.run_is p) (λ g h. keep (g, h)) (card-positive a n ha q.some) (read false x))

-- place i has k values in b and l in a
pub record Place (b a : List ℕ) (i k l : ℕ) : Type 0 where
  pub in_b : i < length b
  pub in_a : i < length a
  pub k_is : k ≡ get_or b i 0
  pub l_is : l ≡ get_or a i 0
  pub k_pos : 0 < k
  pub l_pos : 0 < l

pub place : {a b : List ℕ} {i k l : ℕ} → Shaped a → Shaped b → i < length b → i < length a → k ≡ get_or b i 0 → l ≡ get_or a i 0 → Place b a i k l
place {a} {b} {i} {k} {l} q p hb ha ek el =
    record {
      in_b = hb;
      in_a = ha;
      k_is = ek;
      l_is = el;
      k_pos = rw ek (card-positive b i hb p.some);
      l_pos = rw el (card-positive a i ha q.some);
    }

-- the steps of `Turns` at it
module _ {b a : List ℕ} {goal i rest at stp k l : ℕ} (x : Turns b a goal i rest at stp) (y : Place b a i k l) where
  pos : 0 < get_or b i 0
  pos = rw y.k_is at y.k_pos

  pub turn_take : rest % k % l * stp ≤ at
  turn_take = rw (y.k_is, y.l_is) (turns_take x y.in_b y.in_a pos)

  pub turn_stop : rest % k + 1 < k → at - rest % k % l * stp + (rest % k + 1) % l * stp ≡ goal
  turn_stop h = rw (y.k_is, y.l_is) (turns_stop x y.in_b y.in_a pos (rw y.k_is at h))

  pub turn_more : k ≤ rest % k + 1 → Turns b a goal (i + 1) (rest / k) (at - rest % k % l * stp) (stp * l)
  turn_more h = rw (y.k_is, y.l_is) (turns_more x y.in_b y.in_a pos (rw y.k_is at h))

  pub turn_skip : k ≤ 1 → Turns b a goal (i + 1) rest at (stp * l)
  turn_skip h = rw y.l_is (turns_skip x y.in_b y.in_a pos (rw y.k_is at h))

-- run r of b begins at cell d of a
abbrev pub Starts : List ℕ → List ℕ → Run → ℕ → ℕ → Type 0
Starts a b u d r = d ≡ u.first * remap_from u.places b a r

-- one table fits in either case
room-one : (both : Bool) (n : ℕ) → n ≤ room both n
room-one true n = omega arith
room-one false n = omega arith

-- w' is w but for the n bytes at `to`
abbrev Kept : List ℕ → ℕ → ℕ → List ℕ → Type 0
Kept w to n w' = Filled w to (λ k. at w' (to + k)) n w'

-- in w' the first k cells stand at z of the table that was at `from` in w, moved
abbrev Stands : (w a b : List ℕ) (from z k : ℕ) (w' : List ℕ) → Type 0
Stands w a b from z k w' = (c : ℕ) → c < k → at w' (z + c) ≡ at (part w from (cells a)) (remap b a c)

-- a loop's state: k cells of the first table stand there, and l of the second, if there is one
pub record Laying (w a b : List ℕ) (n low high to : ℕ) (both : Bool) (k l : ℕ) (w' : List ℕ) : Type 0 where
  pub kept : Kept w to (room both (cells b)) w'
  pub lower : Stands w a b low to k w'
  pub upper : both ≡ true → Stands w a b high (to + n) l w'

pub laying_none : (w a b : List ℕ) (n low high to : ℕ) (both : Bool) → Laying w a b n low high to both 0 0 w
laying_none w a b n low high to both =
    record {
      kept = record { len = refl; here = λ k h. refl; before = λ j h. refl; after = λ j h. refl };
      lower = λ c h. absurd (omega arith);
      upper = λ e c h. absurd (omega arith);
    }

-- where there is no second
pub laying_one : {w a b : List ℕ} {n low high to : ℕ} {both : Bool} {k l m : ℕ} {w' : List ℕ} → both ≡ false
    → Laying w a b n low high to both k l w' → Laying w a b n low high to both k m w'
laying_one e y = record { kept = y.kept; lower = y.lower; upper = λ t. absurd (false≢true (sym e ∙ t)) }

module _ {w a b : List ℕ} {n low high to : ℕ} {both along : Bool} {u : Run} (v : Moving w a b n low high to both) (x : Runs a b along u) where
  some : 0 < u.cells
  some = runs_some x v.shaped

  pub runs_begin : Starts a b u 0 0
  runs_begin = sym (ap (λ (y : ℕ). u.first * y) (remap-first u.places b a) ∙ mul-zero u.first)

  -- the runs are all cells of b
  pub runs_all : u.cells * (n / u.cells) ≡ cells b
  runs_all =
      let q = cells (drop u.places b) in
      let all : n ≡ u.cells * q = v.count ∙ sym (step-rest b u.places) ∙ ap (λ (y : ℕ). y * q) (sym x.cells_is) in
      ap (λ (y : ℕ). u.cells * (y / u.cells)) all ∙ ap (λ (y : ℕ). u.cells * y) (mul-div_cancel_left q some) ∙ sym all ∙ v.count

  module _ {r d : ℕ} (h : r < n / u.cells) (s : Starts a b u d r) where
    size : u.cells * (r + 1) ≡ u.cells * r + u.cells
    size = rw (add-one r) (mul-suc u.cells r)

    runs_in : u.cells * r + u.cells ≤ cells b
    runs_in = omega (arith, runs_all, line-end u.cells (n / u.cells) r h)

    reads : (o : ℕ) → o < u.cells → remap b a (o + u.cells * r) ≡ pick along o 0 + d
    reads o ho = x.reads r o ho ∙ ap (λ (y : ℕ). pick along o 0 + y) (sym s)

    -- what is read for run r are cells of a
    runs_from : d + pick along u.cells 1 ≤ cells a
    runs_from = go along reads
      where
        go : (t : Bool) → ((o : ℕ) → o < u.cells → remap b a (o + u.cells * r) ≡ pick t o 0 + d) → d + pick t u.cells 1 ≤ cells a
        go true f =
            let p = some in
            omega (arith, f (u.cells - 1) (omega arith), cell_lt a (value b (u.cells - 1 + u.cells * r)) v.first.some)
        go false f = omega (arith, f 0 some, cell_lt a (value b (0 + u.cells * r)) v.first.some)

    -- run r of the table at z, from the one at `from`
    abbrev Lays : (from z : ℕ) (w' w'' : List ℕ) → Type 0
    Lays from z w' w'' = Laid w' (z + u.cells * r) (tabulate u.cells (λ o. at w' (from + d + pick along o 0))) u.cells w''

    module _ {from z m : ℕ} {w' : List ℕ} (p : Apart w from (cells a) to m) (lo : to ≤ z) (hi : z + cells b ≤ to + m) (y : Kept w to m w') where
      run-apart : Apart w' (from + d) (pick along u.cells 1) (z + u.cells * r) u.cells
      run-apart =
          let l = y.len in
          record {
            src = let q = p.src in omega (arith, runs_from);
            dst = let q = p.dst in omega (arith, runs_in);
            apart = ⊎_elim (λ q. inl (omega (arith, runs_from))) (λ q. inr (omega (arith, runs_in))) p.apart;
          }

      module _ {w'' : List ℕ} (l : Lays from z w' w'') where
        run-kept : Kept w to m w''
        run-kept =
            record {
              len = l.len ∙ y.len;
              here = λ k lt. refl;
              before = λ j lt. l.before j (omega arith) ∙ y.before j lt;
              after = λ j lt. l.after j (omega (arith, runs_in)) ∙ y.after j lt;
            }

        run-stands : Stands w a b from z (u.cells * r) w' → Stands w a b from z (u.cells * (r + 1)) w''
        run-stands t k lt = by_order (u.cells * r) k new (λ le. l.before (z + k) (omega arith) ∙ t k le)
          where
            new : u.cells * r ≤ k → at w'' (z + k) ≡ at (part w from (cells a)) (remap b a k)
            new ge =
                let o = k - u.cells * r in
                let ho : o < u.cells = omega (arith, size) in
                let i : z + k ≡ z + u.cells * r + o = omega arith in
                let f : k ≡ o + u.cells * r = omega arith in
                let place : from + d + pick along o 0 ≡ from + remap b a k = omega (arith, reads o ho, ap (remap b a) f) in
                ap (at w'') i ∙ l.here o ho ∙ at-tabulate u.cells _ o ho ∙ ap (at w') place
                ∙ read_part p y (omega arith) (remap b a k) (cell_lt a (value b k) v.first.some)

    -- run r of the first table
    module _ {w' : List ℕ} (y : Laying w a b n low high to both (u.cells * r) (u.cells * r) w') where
      lower_in : to + cells b ≤ to + room both (cells b)
      lower_in = omega (arith, room-one both (cells b))

      pub lower-apart : Apart w' (low + d) (pick along u.cells 1) (to + u.cells * r) u.cells
      lower-apart = run-apart v.lower (omega arith) lower_in y.kept

      pub lower-more : {w'' : List ℕ} → Lays low to w' w'' → Laying w a b n low high to both (u.cells * (r + 1)) (u.cells * r) w''
      lower-more l =
          record {
            kept = run-kept v.lower (omega arith) lower_in y.kept l;
            lower = run-stands v.lower (omega arith) lower_in y.kept l y.lower;
            upper = λ e c lt. l.after (to + n + c) (omega (arith, runs_in, v.count)) ∙ y.upper e c lt;
          }

    -- and then of the second
    module _ (e : both ≡ true) {w' : List ℕ} (y : Laying w a b n low high to both (u.cells * (r + 1)) (u.cells * r) w') where
      upper_in : to + n + cells b ≤ to + room both (cells b)
      upper_in = omega (arith, v.count, ap (λ (t : Bool). room t (cells b)) e)

      pub upper-apart : Apart w' (high + d) (pick along u.cells 1) (to + n + u.cells * r) u.cells
      upper-apart = run-apart v.upper (omega arith) upper_in y.kept

      pub upper-more : {w'' : List ℕ} → Lays high (to + n) w' w''
          → Laying w a b n low high to both (u.cells * (r + 1)) (u.cells * (r + 1)) w''
      upper-more l =
          record {
            kept = run-kept v.upper (omega arith) upper_in y.kept l;
            lower = λ c lt. l.before (to + c) (omega (arith, size, runs_in, v.count)) ∙ y.lower c lt;
            upper = λ t. run-stands v.upper (omega arith) upper_in y.kept l (y.upper e);
          }

-- all cells
pub laying_all : {w a b : List ℕ} {n low high to k : ℕ} {w' : List ℕ} (both : Bool) → n ≡ cells b → k ≡ cells b
    → Laying w a b n low high to both k k w'
    → Laid w to (together both (moved a b (part w low (cells a))) (moved a b (part w high (cells a)))) (room both (cells b)) w'
laying_all {b = b} false e f y =
    filled_laid _ (cells b) refl y.kept (λ k lt. y.lower k (omega arith) ∙ sym (at-tabulate (cells b) _ k lt))
laying_all {w} {a} {b} {n} {low} {high} {to} {k} {w'} true e f y =
    filled_laid _ (2 * cells b) refl y.kept
    (λ c lt.
    by_order (cells b) c
    (λ le.
    let o = c - cells b in
    let i : to + c ≡ to + n + o = omega arith in
    let j : length first + o ≡ c = omega (arith, long) in
    ap (at w') i ∙ y.upper refl o (omega arith) ∙ sym (at-tabulate (cells b) _ o (omega arith))
    ∙ sym (get_or-append-add first second o 0) ∙ ap (at (first ++ second)) j)
    (λ less.
    y.lower c (omega arith) ∙ sym (at-tabulate (cells b) _ c less) ∙ sym (get_or-append first second 0 c (omega (arith, long)))))
  where
    first : List ℕ
    first = moved a b (part w low (cells a))

    second : List ℕ
    second = moved a b (part w high (cells a))

    long : length first ≡ cells b
    long = length-tabulate_from _ 0 (cells b)
