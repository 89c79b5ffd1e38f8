-- Row 9 on the work buffer.
use Prim.Native.Nat.{ℕ, ◌*◌}
use mathlib.Core.Path.{◌≡◌, refl, sym, ◌∙◌, ap, ap₂}
use mathlib.Core.Bool.{Bool, true, false}
use mathlib.Core.List.{List}
use mathlib.Core.Logic.{⊎_elim}
use native.Mathlib.Omega.{arith}
use lib.Dec.{leb}
use Rattle.rules.specs.Bytes.{at, all}
use Rattle.rules.specs.Cell.{cells, greatest_over}
use Rattle.rules.specs.Limits.{Limits}
use Rattle.laws.proofs.TableLaws.{all_same}
use Rattle.tables.specs.Part.{part, Laid, Apart}
use Rattle.tables.proofs.PartLaws.{part_at}
use Rattle.join_tables.specs.Parts.{Holds, Placed, Within, Work, Blinded, Judged}
use Rattle.join_tables.proofs.HoldLaws.{holds_at, laid-holds, laid-within, within_then, stays-below, stays_behind}
use Rattle.join_tables.proofs.BlindLaws.{own-greatest, block_by}

-- a test of two tables that stand in a buffer
fits-is : (ks : List ℕ) {w x y : List ℕ} {a b n : ℕ} → n ≡ cells ks → Holds w a x n → Holds w b y n
    → all n (λ c. leb (at (part w a n) c) (at (part w b n) c)) ≡ all (cells ks) (λ c. leb (at x c) (at y c))
fits-is ks {w} {x} {y} {a} {b} {n} e hx hy =
    all_same n _ _ (λ c h. ap₂ leb (part_at w a n c h ∙ hx.here c h) (part_at w b n c h ∙ hy.here c h)) ∙ ap (λ (i : ℕ). all i (λ c. leb (at x c) (at y c))) e

pub blinded : (ks : List ℕ) (set : ℕ) {g w : List ℕ} {from to n : ℕ} {w' : List ℕ} (r : Bool) → n ≡ cells ks → Apart w from n to n → Holds w from g n
    → Laid w to (greatest_over ks set g) n w' → r ≡ all n (λ c. leb (at (part w' to n) c) (at (part w' from n) c)) → Blinded ks set to n g w r w'
blinded ks set {g} r e p h l q =
    record {
      answer = q ∙ fits-is ks e (laid-holds l) (⊎_elim (λ le. stays-below (laid-within l) le h) (λ le. stays_behind (laid-within l) le h) p.apart) ∙ own-greatest ks set g;
      kept = laid-within l;
    }

module _ (t : ℕ) {g w ks : List ℕ} {n : ℕ} (work : Work w ks n) (h : Holds w (2 * n) g n) where
  same : Within w n (2 * n) w
  same = record { len = refl; before = λ j h. refl; after = λ j h. refl }

  -- the two tests of the limits
  module _ (l : Limits) (p : Placed w (4 * n) l n) where
    low-is : {a : Bool} → a ≡ all n (λ c. leb (at (part w (4 * n) n) c) (at (part w (2 * n) n) c)) → all (cells ks) (λ c. leb (at l.lower c) (at g c)) ≡ a
    low-is e = sym (e ∙ fits-is ks work.count p.lows h)

    high_is : {a : Bool} → a ≡ all n (λ c. leb (at (part w (2 * n) n) c) (at (part w (5 * n) n) c)) → all (cells ks) (λ c. leb (at g c) (at l.upper c)) ≡ a
    high_is e = sym (e ∙ fits-is ks work.count h (holds_at {b = 5 * n} (omega arith) p.highs))

  pub below-limits : false ≡ all n (λ c. leb (at (part w (4 * n) n) c) (at (part w (2 * n) n) c)) → Judged ks t n g w false w
  below-limits e = record { answer = λ l p. sym (block_by ks t l g false _ _ (low-is l p e) refl refl); kept = same }

  module _ (e : true ≡ all n (λ c. leb (at (part w (4 * n) n) c) (at (part w (2 * n) n) c))) where
    pub above-limits : false ≡ all n (λ c. leb (at (part w (2 * n) n) c) (at (part w (5 * n) n) c)) → Judged ks t n g w false w
    above-limits k = record { answer = λ l p. sym (block_by ks t l g true false _ (low-is l p e) (high_is l p k) refl); kept = same }

    pub judged : {w' : List ℕ} {r : Bool} → true ≡ all n (λ c. leb (at (part w (2 * n) n) c) (at (part w (5 * n) n) c)) → Blinded ks t n n g w r w' → Judged ks t n g w r w'
    judged {w'} {r} k b =
        record {
          answer = λ l p. sym (block_by ks t l g true true r (low-is l p e) (high_is l p k) (sym b.answer));
          kept = within_then n (2 * n) same b.kept (omega arith) (omega arith) (omega arith) (omega arith);
        }
