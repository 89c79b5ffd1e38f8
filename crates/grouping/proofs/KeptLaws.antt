-- What stays of a buffer in which two parts were written, and the tables that stand in the two.
use Prim.Native.Nat.{ℕ, ◌+◌, ◌*◌, ◌≤◌, ◌<◌}
use mathlib.Core.Path.{◌≡◌, refl, sym, ◌∙◌, ap, subst}
use mathlib.Core.List.{List}
use mathlib.Core.Logic.{inl, inr, ⊎_elim}
use native.Mathlib.Nat.{zero-add}
use native.Mathlib.Omega.{arith}
use lib.ListN.{length}
use Rattle.rules.specs.Bytes.{at}
use Rattle.rules.specs.Cell.{Positive, cells, singleton, insert, least_over}
use Rattle.laws.proofs.LineLaws.{over-insert, over-same}
use Rattle.laws.proofs.OverLaws.{min-bound}
use Rattle.laws.proofs.TableLaws.{length-tabulate_from}
use Rattle.laws.proofs.TestLaws.{by_order}
use Rattle.tables.specs.Part.{part, Laid, Apart, Two}
use Rattle.tables.proofs.PartLaws.{part_at, part_same, laid_as, laid-part, laid-apart}
use Rattle.tables.proofs.LendLaws.{lent, lent_at, back, laid-back, laid_alone}
use Rattle.grouping.specs.Growing.{Held, Kept, Space, Started}

-- parts that lie apart, from either
pub turn-apart : {w : List ℕ} {from m to n : ℕ} → Apart w from m to n → Apart w to n from m
turn-apart p = record { src = p.dst; dst = p.src; apart = ⊎_elim (λ q. inr q) (λ q. inl q) p.apart }

same-apart : {w w' : List ℕ} {from to n : ℕ} → length w' ≡ length w → Two w from to n → Two w' from to n
same-apart e p = let s = p.src in let d = p.dst in record { src = omega arith; dst = omega arith; apart = p.apart }

pub turn-space : {w ks : List ℕ} {low a b : ℕ} → Space w ks low a b → Space w ks low b a
turn-space p = record { shaped = p.shaped; first = p.second; second = p.first; both = turn-apart p.both }

-- the same for as many cells
pub cells-apart : {w : List ℕ} {from to m n : ℕ} → n ≡ m → Two w from to m → Two w from to n
cells-apart {w} {from} {to} e p = subst (λ (k : ℕ). Two w from to k) (sym e) p

-- what is kept
pub kept_self : (w : List ℕ) (a b n : ℕ) → Kept w a b n w
kept_self w a b n = record { len = refl; other = λ j x y. refl }

pub kept_then : {w w' w'' : List ℕ} {a b n : ℕ} → Kept w a b n w' → Kept w' a b n w'' → Kept w a b n w''
kept_then k l = record { len = l.len ∙ k.len; other = λ j x y. l.other j x y ∙ k.other j x y }

pub kept-turn : {w w' : List ℕ} {a b n : ℕ} → Kept w a b n w' → Kept w b a n w'
kept-turn k = record { len = k.len; other = λ j x y. k.other j y x }

-- one of the two parts written
pub kept-laid : {w t w' : List ℕ} {b n : ℕ} (a : ℕ) → Laid w b t n w' → Kept w a b n w'
kept-laid {w} {t} {w'} {b} {n} a l =
    record {
      len = l.len;
      other = λ j x y. by_order b j (λ le. by_order (b + n) j (λ past. l.after j past) (λ lt. absurd (y le lt))) (λ lt. l.before j lt);
    }

-- a part that lies apart from both
pub kept-part : {w w' : List ℕ} {from a b n : ℕ} → Two w from a n → Two w from b n → Kept w a b n w' → part w' from n ≡ part w from n
kept-part {w} {w'} {from} {a} {b} {n} p q k =
    part_same w w' from n p.src k.len
    (λ c h. k.other (from + c) (λ x y. ⊎_elim (λ z. omega arith) (λ z. omega arith) p.apart) (λ x y. ⊎_elim (λ z. omega arith) (λ z. omega arith) q.apart))

pub held-turn : {ks u w : List ℕ} {s t a b : ℕ} → Held ks u s t a b w → Held ks u t s b a w
held-turn h = record { first = h.second; second = h.first }

-- a table taken over a condition
least-laid : {w : List ℕ} (ks : List ℕ) (i b : ℕ) {w' : List ℕ} (f : List ℕ) → Laid w b (least_over ks (singleton i) f) (cells ks) w' → b + cells ks ≤ length w
    → part w' b (cells ks) ≡ least_over ks (singleton i) f
least-laid ks i b f l h = laid-part l h (length-tabulate_from _ 0 (cells ks))

-- k bytes from a on that are lent, of which the first n are taken over a condition: in their place or behind them
module _ (w : List ℕ) (a k to n : ℕ) (h : a + k ≤ length w) (g : to + n ≤ k) where
  pub lent-least : (ks : List ℕ) (i : ℕ) {v : List ℕ} → n ≡ cells ks → Laid (lent a k w) to (least_over ks (singleton i) (part (lent a k w) 0 n)) n v
      → Laid w (a + to) (least_over ks (singleton i) (part w a (cells ks))) (cells ks) (back a k w v)
  lent-least ks i {v} e l =
      subst (λ (c : ℕ). Laid w (a + to) (least_over ks (singleton i) (part w a (cells ks))) c (back a k w v)) e
      (laid_as (over-same min-bound ks (singleton i) (part (lent a k w) 0 n) (part w a (cells ks)) same) (laid-back a k h g l))
    where
      same : (c : ℕ) → c < cells ks → at (part (lent a k w) 0 n) c ≡ at (part w a (cells ks)) c
      same c lt = part_at (lent a k w) 0 n c (omega arith) ∙ lent_at a k w (0 + c) (omega arith) ∙ ap (λ (j : ℕ). at w (a + j)) (zero-add c) ∙ sym (part_at w a (cells ks) c lt)

-- in their place, where they are all that is lent
pub in_place : (w : List ℕ) (a n : ℕ) → a + n ≤ length w → (ks : List ℕ) (i : ℕ) {v : List ℕ} → n ≡ cells ks
    → Laid (lent a n w) 0 (least_over ks (singleton i) (part (lent a n w) 0 n)) n v → Laid w a (least_over ks (singleton i) (part w a (cells ks))) (cells ks) (back a n w v)
in_place w a n h ks i {v} e l =
    subst (λ (c : ℕ). Laid w a (least_over ks (singleton i) (part w a c)) c (back a n w v)) e (laid_alone w a n h (least_over ks (singleton i)) l)

-- two tables side by side
pub beside : {w : List ℕ} {a n m : ℕ} → n ≡ m → a + 2 * n ≤ length w → Two w a (a + n) m
beside e h = record { src = omega arith; dst = omega arith; apart = inl (omega arith) }

-- the upper grades at high: over j at a, then over i in their own place
pub started : {w ks w' w'' : List ℕ} (i j : ℕ) {high a : ℕ} → Two w high a (cells ks) → Laid w a (least_over ks (singleton j) (part w high (cells ks))) (cells ks) w'
    → Laid w' high (least_over ks (singleton i) (part w' high (cells ks))) (cells ks) w'' → Started w ks i j high a high w''
started {w} {ks} {w'} {w''} i j {high} {a} p l m =
    record {
      held = record {
        first = laid-apart (same-apart l.len (turn-apart p)) m ∙ least-laid ks j a (part w high (cells ks)) l p.dst;
        second = least-laid ks i high (part w' high (cells ks)) m (let s = p.src in let e = l.len in omega arith) ∙ ap (least_over ks (singleton i)) (laid-apart p l);
      };
      kept = kept_then (kept-turn (kept-laid high l)) (kept-laid a m);
    }

-- condition i added to s
pub held-add : {w ks : List ℕ} (i : ℕ) {u w' : List ℕ} {s t a b : ℕ} → Positive ks → Two w a b (cells ks) → Held ks u s t a b w
    → Laid w b (least_over ks (singleton i) (part w b (cells ks))) (cells ks) w' → Held ks u (insert s i) t a b w'
held-add {w} {ks} i {u} {w'} {s} {t} {a} {b} pos p h l =
    record {
      first = laid-apart p l ∙ h.first;
      second = least-laid ks i b (part w b (cells ks)) l p.dst ∙ ap (least_over ks (singleton i)) h.second ∙ over-insert min-bound ks u s i pos;
    }
