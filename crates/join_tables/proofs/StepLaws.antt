-- A join's steps on its work buffer: what each part holds after them.
use Prim.Native.Nat.{ℕ, ◌+◌, ◌-◌, ◌*◌, ◌≤◌, max}
use mathlib.Core.Path.{◌≡◌, ◌∙◌, ap, ap₂, subst}
use mathlib.Core.Bool.{Bool}
use mathlib.Core.List.{List}
use mathlib.Core.Logic.{inl, inr}
use native.Mathlib.Omega.{arith}
use lib.Dec.{leb}
use lib.ListN.{length}
use Rattle.rules.specs.declared.Gate.{Gate}
use Rattle.rules.specs.Bytes.{at, tabulate, all}
use Rattle.rules.specs.Cell.{cells, greatest_over}
use Rattle.rules.specs.Join.{above, u_a, u_b, exchange_for}
use Rattle.laws.proofs.TableLaws.{at-tabulate, tabulate-same, all_same}
use Rattle.laws.proofs.TestLaws.{by_order}
use Rattle.laws.proofs.JoinLaws.{above_le}
use Rattle.laws.proofs.OverLaws.{max-bound, over-bound}
use Rattle.tables.specs.Part.{part, Laid, Apart}
use Rattle.tables.proofs.PartLaws.{part_at}
use Rattle.join_tables.specs.Parts.{turned, Below, Holds, Within, Exchanging, Exchanged, Work, Existing, First, Second}
use Rattle.join_tables.proofs.HoldLaws.{holds_at, laid-within, within_then, stays-below, stays_behind}
use Rattle.join_tables.proofs.TurnLaws.{turned-holds}

-- parts to read and to write, one behind the other
pub before : {w : List ℕ} (from m to n : ℕ) → from + m ≤ to → to + n ≤ length w → Apart w from m to n
before from m to n le room = record { src = omega arith; dst = room; apart = inl le }

pub behind : {w : List ℕ} (from m to n : ℕ) → to + n ≤ from → from + m ≤ length w → Apart w from m to n
behind from m to n le room = record { src = room; dst = omega arith; apart = inr le }

-- the greatest of the grades that are above, for whatever tables stood there
module _ (ks : List ℕ) (set high : ℕ) {w : List ℕ} {low to n : ℕ} {w' : List ℕ} (e : n ≡ cells ks)
    (l : Laid w to (greatest_over ks set (tabulate n (λ c. above (at (part w low n) c) (at (part w high n) c)))) n w') where
  above_holds : {x y : List ℕ} → Holds w low x n → Holds w high y n → Holds w' to (greatest_over ks set (tabulate (cells ks) (λ c. above (at x c) (at y c)))) n
  above_holds {x} {y} hx hy =
      record {
        here = λ c lt.
            l.here c lt
            ∙ ap (λ (f : List ℕ). at (greatest_over ks set f) c)
            (tabulate-same n _ _ (λ d hd. ap₂ above (part_at w low n d hd ∙ hx.here d hd) (part_at w high n d hd ∙ hy.here d hd))
            ∙ ap (λ (i : ℕ). tabulate i (λ c. above (at x c) (at y c))) e);
      }

  -- its grades are among those of the low table, and 0
  pub above-below : {m : ℕ} → Below w low n m → Below w' to n m
  above-below {m} b =
      record {
        grade = λ c lt.
            rw (l.here c lt)
            (over-bound max-bound ks set (tabulate n (λ c. above (at (part w low n) c) (at (part w high n) c))) c (m - 1) (omega arith)
            (λ d hd q.
            rw (at-tabulate n (λ c. above (at (part w low n) c) (at (part w high n) c)) d (omega arith))
            (above_le (at (part w low n) d) (at (part w high n) d) (m - 1) (λ lt. rw (part_at w low n d (omega arith)) (b.grade d (omega arith))))));
      }

-- grades stay, and two parts of them are one
pub grades-below : {w w' : List ℕ} {lo hi a n m : ℕ} → Within w lo hi w' → a + n ≤ lo → Below w a n m → Below w' a n m
grades-below {a = a} p le b = record { grade = λ c lt. rw (p.before (a + c) (omega arith)) (b.grade c lt) }

pub grades_behind : {w w' : List ℕ} {lo hi a n m : ℕ} → Within w lo hi w' → hi ≤ a → Below w a n m → Below w' a n m
grades_behind {a = a} p le b = record { grade = λ c lt. rw (p.after (a + c) (omega arith)) (b.grade c lt) }

grades-both : {w : List ℕ} {m : ℕ} (a b n : ℕ) → a + n ≡ b → Below w a n m → Below w b n m → Below w a (2 * n) m
grades-both {w} {m} a b n e p q =
    record { grade = λ c lt. by_order n c (λ le. let i : b + (c - n) ≡ a + c = omega arith in subst (λ (j : ℕ). at w j ≤ m - 1) i (q.grade (c - n) (omega arith))) (λ less. p.grade c less) }

-- whether the join exists
pub existing : {w : List ℕ} {n : ℕ} (r : Bool) → r ≡ all n (λ c. leb (at (part w 0 n) c) (max (at (part w (2 * n) n) c) (at (part w (3 * n) n) c))) → Existing n w r
existing {w} {n} r e =
    record {
      answer = λ gate ks m s t l size o.
          let x = exchange_for gate ks m l in
          e
          ∙ all_same n _ _
          (λ c h.
          ap₂ leb (part_at w 0 n c h ∙ o.begun.lows.here c h)
          (ap₂ max (part_at w (2 * n) n c h ∙ o.firsts.here c h) (part_at w (3 * n) n c h ∙ o.begun.seconds.here c h)))
          ∙ ap (λ (i : ℕ). all i (λ c. leb (at x.lower c) (max (at (u_a ks s t x.lower x.upper) c) (at (u_b ks s t x.lower x.upper) c)))) size;
    }

module _ (gate : Gate) {w ks : List ℕ} {m n : ℕ} (work : Work w ks n) (some : 1 ≤ m) where
  room : 6 * n ≤ length w
  room = work.room

  -- the first block's limits
  module _ (t : ℕ) {v : List ℕ} (a : Laid w n (greatest_over ks t (tabulate n (λ c. above (at (part w 0 n) c) (at (part w (3 * n) n) c)))) n v) where
    pub first-exchange : Below w 0 n m → Below w (2 * n) n m → Exchanging v m n (4 * n) n
    first-exchange p q =
        let r = room in
        let k = a.len in
        record {
          some = some;
          parts = before n (2 * n) (4 * n) (2 * n) (omega arith) (omega arith);
          grades = grades-both n (2 * n) n (omega arith) (above-below ks t (3 * n) work.count a p) (grades_behind (laid-within a) (omega arith) q);
        }

    pub first : {w' : List ℕ} → Exchanged gate v m n (4 * n) n w' → First gate ks m t n w w'
    first x =
        record {
          limits = λ s l o.
              x.limits ks _ work.count
              (record {
                lows = above_holds ks t (3 * n) work.count a o.begun.lows o.begun.seconds;
                highs = holds_at (omega arith) (stays_behind (laid-within a) (omega arith) o.firsts);
              });
          begun = λ s l b.
              record {
                lows = stays-below x.kept (omega arith) (stays-below (laid-within a) (omega arith) b.lows);
                seconds = stays-below x.kept (omega arith) (stays_behind (laid-within a) (omega arith) b.seconds);
              };
          kept = within_then n (6 * n) (laid-within a) x.kept (omega arith) (omega arith) (omega arith) (omega arith);
        }

  -- the second block's
  module _ {v₁ : List ℕ} (x : Laid w n (turned gate n m (part w (2 * n) n)) n v₁) where
    module _ (s : ℕ) {v₂ : List ℕ} (a : Laid v₁ (2 * n) (greatest_over ks s (tabulate n (λ c. above (at (part v₁ 0 n) c) (at (part v₁ n n) c)))) n v₂) where
      pub second-exchange : Below w 0 n m → Below w (3 * n) n m → Exchanging v₂ m (2 * n) (4 * n) n
      second-exchange p q =
          let r = room in
          let i = x.len in
          let k = a.len in
          record {
            some = some;
            parts = before (2 * n) (2 * n) (4 * n) (2 * n) (omega arith) (omega arith);
            grades =
                grades-both (2 * n) (3 * n) n (omega arith) (above-below ks s n work.count a (grades-below (laid-within x) (omega arith) p))
                (grades_behind (laid-within a) (omega arith) (grades_behind (laid-within x) (omega arith) q));
          }

      pub second : {w' : List ℕ} → Exchanged gate v₂ m (2 * n) (4 * n) n w' → Second gate ks m s n w w'
      second y =
          record {
            limits = λ t l g b h.
                y.limits ks _ work.count
                (record {
                  lows = above_holds ks s n work.count a (stays-below (laid-within x) (omega arith) b.lows) (turned-holds gate ks m work.count x h);
                  highs = holds_at (omega arith) (stays_behind (laid-within a) (omega arith) (stays_behind (laid-within x) (omega arith) b.seconds));
                });
            kept =
                within_then n (6 * n) (within_then n (3 * n) (laid-within x) (laid-within a) (omega arith) (omega arith) (omega arith) (omega arith)) y.kept (omega arith) (omega arith) (omega arith)
                (omega arith);
          }
