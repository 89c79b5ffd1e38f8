-- The search for the condition with most values.
use Prim.Native.Nat.{ℕ, ◌+◌, ◌*◌, ◌≤◌, ◌<◌}
use mathlib.Core.Path.{◌≡◌, refl, sym, ◌∙◌, ap, subst}
use mathlib.Core.List.{List}
use native.Mathlib.Nat.{one-mul}
use native.Mathlib.Omega.{arith}
use borrow.Author.Count.{below_more}
use lib.ListN.{length, get_or}
use Rattle.rules.specs.Cell.{Positive, cells, card, width, step, lowest, most_values}
use Rattle.laws.proofs.TestLaws.{by_order, by_equal}
use Rattle.laws.proofs.CellLaws.{card_pos}
use Rattle.laws.proofs.NumberLaws.{card_past}
use Rattle.laws.proofs.LoopLaws.{card_read, step_le, step_start, step-more}
use Rattle.laws.proofs.LowestLaws.{lowest_step}
use Rattle.laws.proofs.SplitLaws.{most-at}
use Rattle.places.specs.declared.sets.Condition.{Condition}
use Rattle.places.specs.Conditions.{IsLowest}
use Rattle.stage_steps.specs.declared.cuts.Cut.{Cut}
use Rattle.stage_steps.specs.Cuts.{IsCut, Better}

-- of the conditions below i, the first with most values; and the step of condition i
pub record Seeking (ks : List ℕ) (i : ℕ) (found : Cut) (stp : ℕ) : Type 0 where
  pub low : found.number < i
  pub values : found.values ≡ card ks found.number
  pub step_is : found.step ≡ step ks found.number
  pub most : (j : ℕ) → j < i → card ks j ≤ found.values
  pub first : (j : ℕ) → j < found.number → card ks j < found.values
  pub next : stp ≡ step ks i

abbrev the_cut : ℕ → ℕ → ℕ → Cut
the_cut i v s = record { number = i; values = v; step = s }

module _ (ks : List ℕ) (eight : length ks ≡ 8) where
  read : (i : ℕ) → i < 8 → get_or ks i 0 ≡ card ks i
  read i h = card_read ks i (omega arith)

  pub seek_first : {v : ℕ} → v ≡ get_or ks 0 0 → Seeking ks 1 (record { number = 0; values = v; step = 1 }) v
  seek_first {v} e =
      let r = e ∙ read 0 (omega arith) in
      record {
        low = omega arith;
        values = r;
        step_is = sym (step_start ks);
        most = λ j h. let z : j ≡ 0 = omega arith in subst (λ (x : ℕ). card ks x ≤ v) (sym z) (omega (arith, r));
        first = λ j h. absurd (omega arith);
        next = let q = step-more ks 0 1 (omega arith) (sym (step_start ks)) in omega (arith, q, e);
      }

  module _ {i : ℕ} {found : Cut} {stp v : ℕ} (lt : i < 8) (s : Seeking ks i found stp) (e : v ≡ get_or ks i 0) where
    value : v ≡ card ks i
    value = e ∙ read i lt

    next-step : stp * v ≡ step ks (i + 1)
    next-step = ap (λ (x : ℕ). stp * x) e ∙ step-more ks i stp (omega arith) s.next

    pub seek_taken : found.values < v → Seeking ks (i + 1) (record { number = i; values = v; step = stp }) (stp * v)
    seek_taken more =
        record {
          low = omega arith;
          values = value;
          step_is = s.next;
          most = below_more (λ (j : ℕ). card ks j ≤ v) i (λ j h. let y = s.most j h in omega arith) (let y = value in omega arith);
          first = λ j h. let y = s.most j h in omega arith;
          next = next-step;
        }

    pub seek_kept : (found.values < v → ⊥) → Seeking ks (i + 1) found (stp * v)
    seek_kept fewer =
        record {
          low = let l = s.low in omega arith;
          values = s.values;
          step_is = s.step_is;
          most = below_more (λ (j : ℕ). card ks j ≤ found.values) i s.most (let y = value in by_order v found.values (λ le. omega arith) (λ gt. absurd (fewer gt)));
          first = s.first;
          next = next-step;
        }

    -- so by the better of the two
    pub seek_more : {next : Cut} → Better found i v stp next → Seeking ks (i + 1) next (stp * v)
    seek_more {next} b =
        by_order v found.values
        (λ le. subst (λ (q : Cut). Seeking ks (i + 1) q (stp * v)) (sym (b.kept (λ h. omega arith))) (seek_kept (λ h. omega arith)))
        (λ lt. subst (λ (q : Cut). Seeking ks (i + 1) q (stp * v)) (sym (b.taken lt)) (seek_taken lt))

  -- the same with nothing found yet
  pub record Sought (i : ℕ) (found : Cut) (stp : ℕ) : Type 0 where
    pub none : i ≡ 0 → (found ≡ record { number = 0; values = 0; step = 1 }) × (stp ≡ 1)
    pub some : 0 < i → Seeking ks i found stp

  pub sought_none : Sought 0 (record { number = 0; values = 0; step = 1 }) 1
  sought_none = record { none = λ _. (refl, refl); some = λ h. absurd (omega arith) }

  module _ {found next : Cut} {stp v : ℕ} (pos : Positive ks) where
    begun : v ≡ get_or ks 0 0 → (found ≡ record { number = 0; values = 0; step = 1 }) × (stp ≡ 1) → Better found 0 v stp next → Seeking ks 1 next (stp * v)
    begun e n b =
        let some : 0 < v = omega (arith, e, read 0 (omega arith), card_pos ks 0 pos) in
        let none : found.values ≡ 0 = ap (λ (f : Cut). f.values) n.0 in
        let q : next ≡ record { number = 0; values = v; step = 1 } = b.taken (omega arith) ∙ ap (λ (x : ℕ). the_cut 0 v x) n.1 in
        rw (q, n.1, one-mul v) (seek_first e)

    pub sought_more : {i : ℕ} → i < 8 → Sought i found stp → v ≡ get_or ks i 0 → Better found i v stp next → Sought (i + 1) next (stp * v)
    sought_more {i} lt s e b =
        record {
          none = λ z. absurd (omega arith);
          some = λ _.
              by_equal i 0
              (λ z.
              subst (λ (j : ℕ). Seeking ks j next (stp * v)) (let o : 1 ≡ i + 1 = omega arith in o)
              (begun (subst (λ (j : ℕ). v ≡ get_or ks j 0) z e) (s.none z) (subst (λ (j : ℕ). Better found j v stp next) z b)))
              (λ n. seek_more lt (s.some (omega arith)) e b);
        }

  -- the product is a step, so at most the number of cells
  pub sought_low : {i : ℕ} {found : Cut} {stp : ℕ} → Positive ks → 0 < i → Sought i found stp → stp ≤ cells ks
  sought_low {i} pos h s = omega (arith, (s.some h).next, step_le ks i pos)

  pub seek_all : {found : Cut} {stp : ℕ} → Positive ks → Seeking ks 8 found stp → IsCut ks (most_values ks) found
  seek_all {found} pos s =
      record { number = sym is; values = s.values ∙ ap (card ks) (sym is); step_is = s.step_is ∙ ap (step ks) (sym is) }
    where
      all : (j : ℕ) → card ks j ≤ card ks found.number
      all j =
          let v = s.values in
          by_order 8 j
          (λ le. let p = card_past ks j (omega arith) in let q = card_pos ks found.number pos in omega arith)
          (λ lt. let m = s.most j lt in omega arith)

      is : most_values ks ≡ found.number
      is = most-at ks found.number all (λ j h. let v = s.values in let f = s.first j h in omega arith)

pub cut-lowest : {ks : List ℕ} {low : Condition} → Positive ks → 1 ≤ width ks → IsLowest ks low
    → IsCut ks (lowest ks) (record { number = low.number; values = low.values; step = 1 })
cut-lowest {ks} pos some is = record { number = is.number; values = is.values; step_is = sym (lowest_step ks pos some) }
