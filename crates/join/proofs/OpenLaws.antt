-- A join opened in a work buffer, its second block, and limits that leave the buffer.
use Prim.Native.Nat.{ℕ, ◌*◌, ◌≤◌, ◌<◌}
use mathlib.Core.Path.{◌≡◌, refl, sym, ◌∙◌, ap}
use mathlib.Core.Bool.{Bool, true}
use mathlib.Core.List.{List, ◌++◌}
use native.Mathlib.Nat.{le_trans}
use native.Mathlib.Omega.{arith}
use lib.ListN.{length, drop}
use Rattle.std.specs.Prelude.{Result, Ok}
use Rattle.rules.specs.declared.Gate.{Gate}
use Rattle.rules.specs.declared.Refusal.{Refusal}
use Rattle.rules.specs.declared.Refusal.TheVariants.{NoJoin, FirstBlock}
use Rattle.rules.specs.Bytes.{at}
use Rattle.rules.specs.Cell.{cells}
use Rattle.rules.specs.Limits.{Limits}
use Rattle.rules.specs.Verdict.{accepted, unless, outcome_of}
use Rattle.rules.specs.Join.{exchange_for, join_exists, first_limits, second_limits, block_sound}
use Rattle.rules.specs.Demands.{Table}
use Rattle.laws.proofs.GateLaws.{Good, exchange_for_good, first_good}
use Rattle.laws.proofs.JoinLaws.{u_a-under, u_b-under}
use Rattle.laws.proofs.TestLaws.{passes}
use Rattle.laws.proofs.VerdictLaws.{row_ok}
use Rattle.tables.specs.Part.{part, Laid}
use Rattle.join_tables.specs.Parts.{Below, Holds, Work, Begun, First, Second, Judged}
use Rattle.join_tables.proofs.HoldLaws.{holds_at, holds-part, laid-holds, laid-within, loaded, stays-below, stays_behind}
use Rattle.join_tables.proofs.BlindLaws.{block_inside}
use Rattle.join.specs.Steps.{Joining, Opens, Given, Completes, Delivered}

-- a table under the upper limits of some that are grades
grades : {ks : List ℕ} {m n a : ℕ} {y : Limits} {w u : List ℕ} → n ≡ cells ks → Good ks m y → Holds w a u n → ((c : ℕ) → c < cells ks → at u c ≤ at y.upper c) → Below w a n m
grades {ks} e good h f = record { grade = λ c lt. let i : c < cells ks = omega arith in rw (h.here c lt) (le_trans (f c i) (good.top c i)) }

table_good : {ks : List ℕ} {m : ℕ} {l : Limits} → Table ks m l → Good ks m l
table_good w = record { room = w.ordered; top = w.top }

table-work : {ks : List ℕ} {m n : ℕ} {l : Limits} {w : List ℕ} → Table ks m l → n ≡ cells ks → 6 * n ≤ length w → Work w ks n
table-work x e le = record { shaped = record { some = x.positive; few = x.few-cells }; count = e; room = le }

pub given : {gate : Gate} {ks : List ℕ} {m s t : ℕ} {l : Limits} {n : ℕ} {w w' g : List ℕ} {r : Result (Unit {0}) Refusal} {u : Unit {0}} → Opens gate ks m s t l n w r w' → r ≡ Ok u → n ≤ length g → Given gate ks m s t n g w'
given {gate} {ks} {m} {s} {t} {l} o e h =
    record { l = l; joining = o.joining; exists = row_ok (join_exists gate ks m s t l) NoJoin (accepted l) o.answer e; block = h }

-- a join that is open, in its buffer and in those that follow
module _ {gate : Gate} {ks : List ℕ} {m s t : ℕ} {l : Limits} {n : ℕ} {w : List ℕ} (j : Joining gate ks m s t l n w) where
  abbrev x : Limits
  x = exchange_for gate ks m l

  x_good : Good ks m x
  x_good = exchange_for_good ks m gate l (table_good j.table)

  work : {v : List ℕ} → length v ≡ length w → Work v ks n
  work e = let r = j.room in table-work j.table j.count (omega arith)

  some : 1 ≤ m
  some = omega (arith, j.table.grades)

  lows : {v : List ℕ} → Begun gate ks m s t l n v → Below v 0 n m
  lows b = grades j.count x_good b.lows x_good.room

  seconds : {v : List ℕ} → Begun gate ks m s t l n v → Below v (3 * n) n m
  seconds b = grades j.count x_good b.seconds (u_b-under ks s t x.lower x.upper)

  pub first-ready : Work w ks n × (1 ≤ m) × Below w 0 n m × Below w (2 * n) n m
  first-ready = (work refl, some, lows j.opened.begun, grades j.count x_good j.opened.firsts (u_a-under ks s t x.lower x.upper))

-- the first block's limits are made, a block g is loaded to part 2 and judged
module _ {gate : Gate} {ks : List ℕ} {m t n : ℕ} {w w₁ w₂ w₃ : List ℕ} {q : Bool} (first : First gate ks m t n w w₁) (g : List ℕ) (load : Laid w₁ (2 * n) (part g 0 n) n w₂)
    (judged : Judged ks t n g w₂ q w₃) where
  len : length w₃ ≡ length w
  len = judged.kept.len ∙ load.len ∙ first.kept.len

  block : Holds w₃ (2 * n) g n
  block = stays_behind judged.kept (omega arith) (laid-holds (loaded load))

  module _ {s : ℕ} {l : Limits} (j : Joining gate ks m s t l n w) where
    row_nine : q ≡ block_sound ks t (first_limits gate ks m s t l) g
    row_nine =
        let p = first.limits s l j.opened in
        let k = laid-within load in
        judged.answer (first_limits gate ks m s t l) (record { lows = stays_behind k (omega arith) p.lows; highs = stays_behind k (omega arith) p.highs })

    begun : Begun gate ks m s t l n w₃
    begun =
        let b = first.begun s l j.opened.begun in
        let k = laid-within load in
        record { lows = stays-below judged.kept (omega arith) (stays-below k (omega arith) b.lows); seconds = stays_behind judged.kept (omega arith) (stays_behind k (omega arith) b.seconds) }

    pub second-ready : join_exists gate ks m s t l ≡ true → q ≡ true → Work w₃ ks n × (1 ≤ m) × Below w₃ (2 * n) n m × Below w₃ 0 n m × Below w₃ (3 * n) n m
    second-ready e sound =
        let good = first_good ks m s t gate l (table_good j.table) (passes e) in
        let inside = block_inside ks t (first_limits gate ks m s t l) g (passes (sym row_nine ∙ sound)) in
        (work j len, some j, grades j.count good block (λ c i. (inside c i).1), lows j begun, seconds j begun)

  pub complete : {s : ℕ} {w' : List ℕ} → q ≡ true → Second gate ks m s n w₃ w' → Completes gate ks m s t n g w (Ok tt) w'
  complete {s} e h =
      record {
        answer = λ l j. ap (λ (b : Bool). outcome_of (unless b FirstBlock (accepted (second_limits gate ks m s t l g)))) (sym e ∙ row_nine j);
        limits = λ l j k. h.limits t l g (begun j) block;
        len = h.kept.len ∙ len;
      }

-- limits from parts 4 and 5 to two buffers
pub delivered : {n : ℕ} {w low high low' high' : List ℕ} → 6 * n ≤ length w → low' ≡ part w (4 * n) n ++ drop n low → high' ≡ part w (5 * n) n ++ drop n high → Delivered n w low high low' high'
delivered {n} {low = low} {high = high} room a b =
    record {
      lower = λ l p e. a ∙ ap (λ (z : List ℕ). z ++ drop n low) (holds-part p.lows (omega arith) e);
      upper = λ l p e. b ∙ ap (λ (z : List ℕ). z ++ drop n high) (holds-part (holds_at {b = 5 * n} (omega arith) p.highs) (omega arith) e);
    }
