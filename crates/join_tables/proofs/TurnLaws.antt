-- Tables made in a part: exchanged, and extremes over a set.
use Prim.Native.Nat.{ℕ, ◌+◌, ◌-◌, ◌*◌, ◌≤◌, ◌<◌}
use mathlib.Core.Path.{◌≡◌, sym, ◌∙◌, ap, subst}
use mathlib.Core.Bool.{Bool}
use mathlib.Core.List.{List}
use mathlib.Core.Logic.{inl, inr, ⊎_elim}
use native.Mathlib.Nat.{add-zero, add_assoc, zero-add}
use native.Mathlib.Omega.{arith}
use lib.ListN.{length}
use Rattle.rules.specs.declared.Gate.{Gate}
use Rattle.rules.specs.declared.Gate.TheVariants.{Min, Max}
use Rattle.rules.specs.Bytes.{at, tabulate}
use Rattle.rules.specs.Cell.{cells, over}
use Rattle.rules.specs.Join.{complement, exchange_block_for}
use Rattle.laws.proofs.CellLaws.{cells_pos}
use Rattle.laws.proofs.TableLaws.{at-tabulate}
use Rattle.laws.proofs.GateLaws.{complement-at}
use Rattle.laws.proofs.LineLaws.{over-same}
use Rattle.tables.specs.Part.{part, Laid, Two, Shaped}
use Rattle.tables.specs.Line.{best}
use Rattle.tables.proofs.PartLaws.{part_at, laid_then, laid_as}
use Rattle.tables.proofs.LineLaws.{best-bound}
use Rattle.tables.proofs.LendLaws.{lent, front, front_length, front_at, back, laid-back, laid_alone}
use Rattle.rows.specs.Grades.{source}
use Rattle.rows.proofs.GradesLaws.{there}
use Rattle.join_tables.specs.Parts.{turned, Below, Holds, Exchanging, Exchanged}
use Rattle.join_tables.proofs.HoldLaws.{laid-within, within_then, stays-below}

pub below-part : {w : List ℕ} {a n m : ℕ} → Below w a n m → (c : ℕ) → c < n → at (part w a n) c ≤ m - 1
below-part {w} {a} {n} b c h = rw (part_at w a n c h) (b.grade c h)

-- a table exchanged
pub turned-holds : (gate : Gate) (ks : List ℕ) (m : ℕ) {w : List ℕ} {a to n : ℕ} {t w' : List ℕ} → n ≡ cells ks
    → Laid w to (turned gate n m (part w a n)) n w' → Holds w a t n → Holds w' to (exchange_block_for gate ks m t) n
turned-holds Max ks m {w} {a} {to} {n} {t} {w'} e l h = record { here = λ c lt. l.here c lt ∙ part_at w a n c lt ∙ h.here c lt }
turned-holds Min ks m {w} {a} {to} {n} {t} {w'} e l h =
    record {
      here = λ c lt.
          l.here c lt ∙ at-tabulate n (λ c. m - 1 - at (part w a n) c) c lt
          ∙ ap (λ (q : ℕ). m - 1 - q) (part_at w a n c lt ∙ h.here c lt)
          ∙ sym (complement-at ks m t c (omega arith));
    }

-- what each grade lacks to the greatest, over the places
pub lacking : (ks : List ℕ) (m : ℕ) (x : List ℕ) {a n : ℕ} {w w' : List ℕ} → n ≡ cells ks → Laid w a (tabulate n (λ c. m - 1 - at x c)) n w' → Laid w a (complement ks m x) n w'
lacking ks m x e l = laid_as (ap (λ (i : ℕ). tabulate i (λ c. m - 1 - at x c)) e) l

-- limits exchanged
module _ {w : List ℕ} {m from to n : ℕ} (p : Exchanging w m from to n) where
  pub turn_ready : (a d : ℕ) → from ≤ a → a ≤ from + n → to ≤ d → d ≤ to + n → Two w a d n × ((c : ℕ) → c < n → at (part w a n) c ≤ m - 1)
  turn_ready a d la ha ld hd =
      let s = p.parts.src in
      let t = p.parts.dst in (
        record { src = omega arith; dst = omega arith; apart = ⊎_elim (λ q. inl (omega arith)) (λ q. inr (omega arith)) p.parts.apart },
        λ c lt. rw (part_at w a n c lt) (let e : from + (a - from + c) ≡ a + c = omega arith in subst (λ (j : ℕ). at w j ≤ m - 1) e (p.grades.grade (a - from + c) (omega arith))),
      )

  -- for max both tables are copied at once
  pub exchanged_max : {w' : List ℕ} → Laid w to (part w from (2 * n)) (2 * n) w' → Exchanged Max w m from to n w'
  exchanged_max {w'} l =
      record {
        limits = λ ks x e h.
            record {
              lows = record { here = λ c lt. l.here c (omega arith) ∙ part_at w from (2 * n) c (omega arith) ∙ h.lows.here c lt };
              highs =
                  record {
                    here = λ c lt.
                        ap (at w') (add_assoc to n c) ∙ l.here (n + c) (omega arith) ∙ part_at w from (2 * n) (n + c) (omega arith)
                        ∙ ap (at w) (sym (add_assoc from n c)) ∙ h.highs.here c lt;
                  };
            };
        kept = laid-within l;
      }

  module _ {t v : List ℕ} (l : Laid w to t n v) where
    source_stays : (j : ℕ) → from ≤ j → j < from + 2 * n → at v j ≡ at w j
    source_stays j lo hi = ⊎_elim (λ q. l.before j (omega arith)) (λ q. l.after j (omega arith)) p.parts.apart

    pub exchanging_on : Exchanging v m from to n
    exchanging_on =
        let q = l.len in
        let s = p.parts.src in
        let u = p.parts.dst in
        record {
          some = p.some;
          parts = record { src = omega arith; dst = omega arith; apart = p.parts.apart };
          grades = record { grade = λ c lt. rw (source_stays (from + c) (omega arith) (omega arith)) (p.grades.grade c lt) };
        }

  -- for min the upper limits come first
  pub exchanged_min : {v w' : List ℕ} → Laid w to (turned Min n m (part w (from + n) n)) n v → Laid v (to + n) (turned Min n m (part v from n)) n w' → Exchanged Min w m from to n w'
  exchanged_min l k =
      record {
        limits = λ ks x e h.
            record {
              lows = stays-below (laid-within k) (omega arith) (turned-holds Min ks m e l h.highs);
              highs = turned-holds Min ks m e k (record { here = λ c lt. source_stays l (from + c) (omega arith) (omega arith) ∙ h.lows.here c lt });
            };
        kept = within_then to (to + 2 * n) (laid-within l) (laid-within k) (omega arith) (omega arith) (omega arith) (omega arith);
      }

-- an extreme over a set: of a table that was just laid
pub over-laid : (greatest : Bool) (ks : List ℕ) (set : ℕ) {n a : ℕ} {w t v w' : List ℕ} → n ≡ cells ks → Laid w a t n v
    → Laid v a (over (best greatest) ks set (part v a n)) n w' → Laid w a (over (best greatest) ks set t) n w'
over-laid greatest ks set {n} {a} {w} {t} {v} {w'} e l k =
    laid_as (over-same (best-bound greatest) ks set (part v a n) t (λ c h. part_at v a n c (omega arith) ∙ l.here c (omega arith))) (laid_then l k)

-- one that is made in a part which is lent on: of that part, or of a table x whose cells are lent
module _ {ks : List ℕ} (shaped : Shaped ks) {n : ℕ} (e : n ≡ cells ks) (a : ℕ) (w : List ℕ) (room : a + n ≤ length w) where
  some : 1 ≤ n
  some = omega (arith, cells_pos ks shaped.some)

  module _ (greatest : Bool) (set : ℕ) {v : List ℕ} where
    over-back : (u t : List ℕ) → ((c : ℕ) → c < n → at u c ≡ at t c) → Laid (lent a n w) 0 (over (best greatest) ks set (part u 0 n)) n v → Laid w a (over (best greatest) ks set t) n (back a n w v)
    over-back u t q l =
        let k = laid-back a n room (omega arith) l in
        laid_as (over-same (best-bound greatest) ks set (part u 0 n) t (λ c h. part_at u 0 n c (omega arith) ∙ ap (at u) (zero-add c) ∙ q c (omega arith))) (rw (add-zero a) at k)

    pub over-part : Laid (lent a n w) 0 (over (best greatest) ks set (part (lent a n w) 0 n)) n v → Laid w a (over (best greatest) ks set (part w a n)) n (back a n w v)
    over-part = laid_alone w a n room (over (best greatest) ks set)

    pub over-lent : (x : List ℕ) → n ≤ length x → Laid (lent a n w) 0 (over (best greatest) ks set (part (source (front n x) (lent a n w)) 0 n)) n v
        → Laid w a (over (best greatest) ks set x) n (back a n w v)
    over-lent x le = over-back (source (front n x) (lent a n w)) x (λ c h. ap (λ (y : List ℕ). at y c) (there (front n x) (lent a n w) (λ q. omega (arith, some, front_length n x le))) ∙ front_at n x c h)
