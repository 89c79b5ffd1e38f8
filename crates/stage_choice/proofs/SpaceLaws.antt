-- Laws of the eight parts of a stage's buffer: the limits exchanged, and the min join's tables settled.
use Prim.Native.Nat.{ℕ, ◌+◌, ◌*◌, ◌≤◌}
use mathlib.Core.Path.{◌≡◌, ◌∙◌, ap}
use mathlib.Core.List.{List}
use mathlib.Core.Logic.{inl}
use native.Mathlib.Omega.{arith}
use lib.ListN.{length}
use Rattle.rules.specs.declared.Gate.TheVariants.{Min}
use Rattle.laws.proofs.TableLaws.{length-tabulate_from}
use Rattle.tables.specs.Part.{part, Laid, Two}
use Rattle.tables.proofs.PartLaws.{part_length, laid-part, laid-apart}
use Rattle.join_tables.specs.Parts.{turned}
use Rattle.grouping.specs.Growing.{Kept}
use Rattle.grouping.proofs.KeptLaws.{turn-apart, kept_then, kept-turn, kept-laid, kept-part}
use Rattle.stage_choice.specs.Choosing.{Spaced, Exchangeable, Exchanged, MinSettled}

pub spaced-same : {w w' : List ℕ} {n : ℕ} → length w' ≡ length w → Spaced w n → Spaced w' n
spaced-same e p = let r = p.room in record { room = omega arith }

module _ {w : List ℕ} {n : ℕ} (p : Spaced w n) where
  pub ahead : (a b : ℕ) → a + n ≤ b → b + n ≤ 8 * n → Two w a b n
  ahead a b h l = let r = p.room in record { src = omega arith; dst = omega arith; apart = inl (omega arith) }

  pub behind : (a b : ℕ) → b + n ≤ a → a + n ≤ 8 * n → Two w a b n
  behind a b h l = turn-apart (ahead b a h l)

  -- a part ahead of two that are written, and one behind them
  pub ahead_stays : {w' : List ℕ} {a b : ℕ} (i : ℕ) → i + n ≤ a → i + n ≤ b → a + n ≤ 8 * n → b + n ≤ 8 * n → Kept w a b n w' → part w' i n ≡ part w i n
  ahead_stays {w'} {a} {b} i f g h l k = kept-part (ahead i a f h) (ahead i b g l) k

  pub behind_stays : {w' : List ℕ} {a b : ℕ} (i : ℕ) → a + n ≤ i → b + n ≤ i → i + n ≤ 8 * n → Kept w a b n w' → part w' i n ≡ part w i n
  behind_stays {w'} {a} {b} i f g h k = kept-part (behind i a f h) (behind i b g h) k

  copied : {w' : List ℕ} (from to : ℕ) → from + n ≤ 8 * n → to + n ≤ 8 * n → Laid w to (part w from n) n w' → part w' to n ≡ part w from n
  copied from to f g l = let r = p.room in laid-part l (omega arith) (part_length w from n (omega arith))

module _ {w : List ℕ} {m n : ℕ} (p : Exchangeable w m n) where
  pub exchanged : {w₁ w₂ : List ℕ} → Laid w (3 * n) (turned Min n m (part w n n)) n w₁ → Laid w₁ (4 * n) (turned Min n m (part w₁ 0 n)) n w₂ → Exchanged m n w w₂
  exchanged {w₁} {w₂} l k =
      let s = p.spaced in
      let s₁ = spaced-same l.len s in
      let r = s.room in
      let r₁ = s₁.room in
      record {
        lows = laid-apart (ahead s₁ (3 * n) (4 * n) (omega arith) (omega arith)) k ∙ laid-part l (omega arith) (length-tabulate_from _ 0 n);
        highs = laid-part k (omega arith) (length-tabulate_from _ 0 n) ∙ ap (turned Min n m) (laid-apart (ahead s 0 (3 * n) (omega arith) (omega arith)) l);
        kept = kept_then (kept-turn (kept-laid (4 * n) l)) (kept-laid (3 * n) k);
      }

-- three copies
pub settled : {w w₁ w₂ w₃ : List ℕ} {n : ℕ} → Spaced w n → Laid w 0 (part w (3 * n) n) n w₁ → Laid w₁ n (part w₁ (4 * n) n) n w₂ → Laid w₂ (2 * n) (part w₂ (5 * n) n) n w₃
    → MinSettled n w w₃
settled {w} {w₁} {w₂} {w₃} {n} s x y z =
    let s₁ = spaced-same x.len s in
    let s₂ = spaced-same y.len s₁ in
    record {
      lows =
          laid-apart (ahead s₂ 0 (2 * n) (omega arith) (omega arith)) z ∙ laid-apart (ahead s₁ 0 n (omega arith) (omega arith)) y
          ∙ copied s (3 * n) 0 (omega arith) (omega arith) x;
      firsts =
          copied s₂ (5 * n) (2 * n) (omega arith) (omega arith) z ∙ laid-apart (behind s₁ (5 * n) n (omega arith) (omega arith)) y
          ∙ laid-apart (behind s (5 * n) 0 (omega arith) (omega arith)) x;
      seconds =
          laid-apart (ahead s₂ n (2 * n) (omega arith) (omega arith)) z ∙ copied s₁ (4 * n) n (omega arith) (omega arith) y
          ∙ laid-apart (behind s (4 * n) 0 (omega arith) (omega arith)) x;
      len = z.len ∙ y.len ∙ x.len;
    }
