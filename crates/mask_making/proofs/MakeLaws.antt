-- The masks of both gates as `make` makes them: one condition after the other.
use Prim.Native.Nat.{ℕ, ◌+◌, ◌*◌, ◌≤◌, ◌<◌}
use mathlib.Core.Path.{◌≡◌, sym, ◌∙◌, ap, ap₂, subst}
use mathlib.Core.Bool.{Bool, false}
use mathlib.Core.List.{List}
use native.Mathlib.Omega.{arith}
use lib.ListN.{length}
use Rattle.rules.specs.Bytes.{at, tabulate}
use Rattle.rules.specs.Cell.{present, has, singleton}
use Rattle.laws.proofs.CellLaws.{present_lt}
use Rattle.laws.proofs.TableLaws.{at-tabulate}
use Rattle.tables.specs.Part.{part, Laid}
use Rattle.tables.proofs.PartLaws.{part_at}
use Rattle.masks.specs.Masks.{above_least, below_greatest, Bits}
use Rattle.mask_making.specs.Making.{Space, Made}
use Rattle.mask_making.specs.Marking.{HaveBit, Kept, CellMarked, Marked}
use Rattle.mask_making.proofs.BitLaws.{Turn, turn-none, turn-bit, turn_skip, turn_more}
use Rattle.mask_making.proofs.KeptLaws.{kept_self, kept_then, kept-part}
use Rattle.mask_making.proofs.PairLaws.{cell_as}

-- the masks at a, of which those of a cell say what p says of it
abbrev Turns : List ℕ → ℕ → ℕ → (ℕ → ℕ → Bool) → ℕ → List ℕ → Type 0
Turns ks n a p i w = (x : ℕ) → x < n → Turn (present ks) (λ j. p j x) i (at w (a + x))

-- the loop of `make` is at i
pub record Building (w ks : List ℕ) (n i : ℕ) (w' : List ℕ) : Type 0 where
  pub kept : Kept w n w'
  pub first : Turns ks n (2 * n) (above_least ks (part w 0 n) (part w n n)) i w'
  pub second : Turns ks n (3 * n) (below_greatest ks (part w 0 n) (part w n n)) i w'

-- both parts of masks, full
module _ {w : List ℕ} {n : ℕ} {w' : List ℕ} (l : Laid w (2 * n) (tabulate (2 * n) (λ _. 255)) (2 * n) w') where
  pub filled_kept : Kept w n w'
  filled_kept = record { len = l.len; limits = λ j h. l.before j h }

  pub building_none : (ks : List ℕ) → Building w' ks n 0 w'
  building_none ks =
      record {
        kept = kept_self w' n;
        first = λ x h. full x (omega arith) (omega arith);
        second = λ x h. full (n + x) (omega arith) (omega arith);
      }
    where
      full : {p : ℕ → Bool} {j : ℕ} (x : ℕ) → x < 2 * n → j ≡ 2 * n + x → Turn (present ks) p 0 (at w' j)
      full {p} x h e =
          subst (Turn (present ks) p 0) (sym (ap (at w') e ∙ l.here x h ∙ at-tabulate (2 * n) (λ _. 255) x h)) (turn-none (present ks) p)

module _ {w ks : List ℕ} {n i : ℕ} {v : List ℕ} (b : Building w ks n i v) where
  pub building_skip : present ks i ≡ false → Building w ks n (i + 1) v
  building_skip e = record { kept = b.kept; first = λ x h. turn_skip (b.first x h) e; second = λ x h. turn_skip (b.second x h) e }

  module _ (s : Space w ks n) (h : i < 8) {bit : ℕ} (e : bit ≡ singleton i) where
    -- the bit of the next condition is in every mask
    pub building_bits : HaveBit v n bit 0
    building_bits =
        let r = s.room in
        let l = b.kept.len in
        record {
          cell = λ x le lt. record {
            first = record { place = omega arith; least = omega (arith, turn-bit (b.first x lt) h) };
            second = record { place = omega arith; least = omega (arith, turn-bit (b.second x lt) h) };
          };
        }

    pub building_more : {w' : List ℕ} → Marked v ks i n bit w' → Building w ks n (i + 1) w'
    building_more {w'} m =
        record {
          kept = kept_then b.kept m.kept;
          first = λ x lt. subst (Turn (present ks) _ (i + 1)) (sym (cell x lt).first) (turn_more (b.first x lt) h);
          second = λ x lt. subst (Turn (present ks) _ (i + 1)) (sym (cell x lt).second) (turn_more (b.second x lt) h);
        }
      where
        cell : (x : ℕ) → x < n
            → CellMarked v n (singleton i) x (above_least ks (part w 0 n) (part w n n) i x) (below_greatest ks (part w 0 n) (part w n n) i x) w'
        cell x lt =
            let low = kept-part s b.kept 0 (omega arith) in
            let high = kept-part s b.kept n (omega arith) in
            cell_as (ap₂ (λ (l u : List ℕ). above_least ks l u i x) low high) (ap₂ (λ (l u : List ℕ). below_greatest ks l u i x) low high)
            ((subst (λ (k : ℕ). Marked v ks i n k w') e m).cell x lt)

-- all of them
pub made : {w ks : List ℕ} {n : ℕ} {v w' : List ℕ} {i : ℕ} → Space w ks n → length ks ≤ i → Kept w n v → Building v ks n i w'
    → Made w ks n w'
made {w} {ks} {n} {v} {w'} {i} s long k b =
    record {
      len = b.kept.len ∙ k.len;
      limits = λ j h. b.kept.limits j h ∙ k.limits j h;
      first = bits (2 * n) (above_least ks) b.first;
      second = bits (3 * n) (below_greatest ks) b.second;
    }
  where
    bits : (a : ℕ) (f : List ℕ → List ℕ → ℕ → ℕ → Bool) → Turns ks n a (f (part v 0 n) (part v n n)) i w'
        → Bits ks (f (part w 0 n) (part w n n)) (part w' a n)
    bits a f t =
        record {
          bit = λ x j hx h.
              let lt : x < n = let e = s.own in omega arith in
              ap (λ (m : ℕ). has m j) (part_at w' a n x lt)
              ∙ (t x lt).is j (omega (arith, present_lt ks j h)) h
              ∙ ap₂ (λ (l u : List ℕ). f l u j x) (kept-part s k 0 (omega arith)) (kept-part s k n (omega arith));
        }
