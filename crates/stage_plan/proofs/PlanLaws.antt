-- What a stage does, from its masks or from its limits.
use Prim.Native.Nat.{ℕ, ◌+◌, ◌*◌, ◌≤◌, ◌<◌}
use mathlib.Core.Path.{◌≡◌, refl, sym, ◌∙◌, ap, ap₂, subst}
use mathlib.Core.Bool.{Bool, true, false, cond, not, ◌&&◌}
use mathlib.Core.List.{List}
use native.Mathlib.Omega.{arith}
use borrow.Author.Tests.{not-true}
use lib.Dec.{T, ltb, ltb→lt}
use lib.ListN.{length}
use Rattle.rules.specs.declared.Gate.TheVariants.{Min, Max}
use Rattle.rules.specs.declared.Settings.{Settings}
use Rattle.rules.specs.Bytes.{at}
use Rattle.rules.specs.Cell.{cells, width, lowest, singleton, without}
use Rattle.rules.specs.Stage.{Stage, left, split, chosen}
use Rattle.laws.proofs.TestLaws.{and_l, and_r, passed}
use Rattle.laws.proofs.CellLaws.{present_lt}
use Rattle.laws.proofs.LastLaws.{only_lowest}
use Rattle.laws.proofs.LowestLaws.{no_width, lowest-present, lowest-width, some_left, narrow-left, wide-left}
use Rattle.laws.proofs.StageLaws.{Ready, Shrunk, left_shrunk, left-ready}
use Rattle.places.specs.declared.sets.Condition.{Condition}
use Rattle.places.specs.Conditions.{IsLowest}
use Rattle.tables.specs.Part.{part, Shaped}
use Rattle.tables.proofs.PartLaws.{part_at, part_same}
use Rattle.masks.specs.Masks.{Known, none_has, some_full, is_full_from, every, Union}
use Rattle.masks.proofs.SplitLaws.{refused-left, full_split, seen_left}
use Rattle.mask_making.specs.Making.{Space, Made}
use Rattle.mask_making.proofs.MadeLaws.{made_known}
use Rattle.stage_drops.specs.Working.{Room, front_stage, Turned, Proper}
use Rattle.stage_drops.proofs.DropLaws.{stage_of, fewer-shaped, as_shaped}
use Rattle.stage_choice.specs.declared.Choice.{Choice}
use Rattle.stage_choice.specs.declared.Choice.TheVariants.{Leaf, Split, Join}
use Rattle.stage_choice.specs.Choosing.{Chosen}
use Rattle.stage_plan.specs.Planning.{Ordered, Learnt, both_full, keeps_last, Leaves, Doing, Planned, Ends}

proper-ready : {m : ℕ} {x : Stage} → Shaped x.ks → Proper m x → Ready m x
proper-ready s h = record { grades = h.some; pos = s.some; good = record { room = h.ordered; top = h.top } }

module _ {ks w : List ℕ} {n : ℕ} (room : Room w ks n) where
  abbrev x : Stage
  x = front_stage ks w

  pub ordered : {m : ℕ} → Proper m x → Ordered w n
  ordered h =
      subst (Ordered w) (sym room.own)
      (record {
        under = λ c l.
            subst (λ (a : ℕ). a ≤ at w (cells ks + c)) (part_at w 0 (cells ks) c l ∙ ap (at w) (omega arith))
            (subst (λ (b : ℕ). at (part w 0 (cells ks)) c ≤ b) (part_at w (cells ks) (cells ks) c l) (h.ordered c l));
      })

  pub space : Ordered w n → Space w ks n
  space o = let r = room.room in record { shaped = room.shaped; own = room.own; room = omega arith; ordered = o.under }

  -- the masks made
  module _ {w' : List ℕ} (o : Ordered w n) (d : Made w ks n w') where
    pub made_stage : front_stage ks w' ≡ x
    made_stage = ap₂ (stage_of ks) (same 0 (omega arith)) (same (cells ks) (omega arith))
      where
        same : (a : ℕ) → a + cells ks ≤ 2 * cells ks → part w' a (cells ks) ≡ part w a (cells ks)
        same a h = let e = room.own in let r = room.room in part_same w w' a (cells ks) (omega arith) d.len (λ j l. d.limits (a + j) (omega arith))

    pub made_masks : (m : ℕ) → Proper m x → Known m ks w'
    made_masks m h = made_known m (space o) (record { room = h.ordered; top = h.top }) d

    pub learnt_made : (known : Bool) → Learnt ks known w w'
    learnt_made known = record { masks = λ m h k. made_masks m h; stage = made_stage; len = d.len }

  pub room-same : {w' : List ℕ} → length w' ≡ length w → Room w' ks n
  room-same e = let r = room.room in record { shaped = room.shaped; own = room.own; room = omega arith }

-- what a stage finds: its limits, where none or one condition is left; and what was chosen
module _ {ks w : List ℕ} {n : ℕ} {low : Condition} (room : Room w ks n) (is : IsLowest ks low) where
  pub narrow-here : low.values ≡ n → width ks < 2
  narrow-here e = narrow-left ks room.shaped.some (sym is.values ∙ e ∙ room.own)

  pub wide-here : (low.values ≡ n → ⊥) → 2 ≤ width ks
  wide-here ne = wide-left ks room.shaped.some (λ e. ne (is.values ∙ e ∙ sym room.own))

  pub does-leaf : {how : Settings} {m : ℕ} → low.values ≡ n → Doing how m (front_stage ks w) w Leaf w
  does-leaf e = record { finds = record { narrow = narrow-here e; stage = refl }; len = refl }

pub does-chosen : {how : Settings} {m : ℕ} (ks w : List ℕ) (r : Choice) {w' : List ℕ} → 2 ≤ width ks → Known m ks w → Chosen how m (front_stage ks w) w r w' → Doing how m (front_stage ks w) w r w'
does-chosen ks w Leaf wide k c = absurd c.is
does-chosen {m = m} ks w Split wide k c =
    record {
      finds = record { wide = wide; is = c.is; stage = ap (front_stage ks) c.tables; masks = subst (Known m ks) (sym c.tables) k };
      len = c.len;
    }
does-chosen ks w (Join gate of) wide k c = record { finds = record { wide = wide; is = c.is; tables = c.tables }; len = c.len }

-- the same of an equal stage, and of a buffer that was as long before
pub does-same : {how : Settings} {m : ℕ} {y z : Stage} {v w : List ℕ} {r : Choice} {w' : List ℕ} → y ≡ z → length v ≡ length w → Doing how m y v r w' → Doing how m z w r w'
does-same {how} {m} {y} {z} {v} {w} {r} {w'} e l d =
    subst (λ (x : Stage). Doing how m x w r w') e (record { finds = d.finds; len = d.len ∙ l })

-- conditions were dropped
module _ {m : ℕ} {ks w : List ℕ} {n : ℕ} (room : Room w ks n) (proper : Proper m (front_stage ks w)) {l w₁ : List ℕ} (t : Turned left ks w l w₁) where
  abbrev y : Stage
  y = left (front_stage ks w)

  places : l ≡ y.ks
  places = ap (λ (z : Stage). z.ks) t.stage

  shrunk : Shrunk (front_stage ks w) y
  shrunk = left_shrunk (front_stage ks w) room.shaped.some

  pub left-room : {k : ℕ} → k ≡ cells l → Room w₁ l k
  left-room {k} e =
      let s = shrunk.less in
      let p = ap cells places in
      let f = room.shaped.few in
      let q = room.own in
      let r = room.room in
      let h = t.len in
      record { shaped = as_shaped places (record { some = shrunk.pos; few = omega arith }); own = e; room = omega arith }

  pub left-proper : Proper m (front_stage l w₁)
  left-proper =
      let r = left-ready m (front_stage ks w) (proper-ready room.shaped proper) in
      subst (Proper m) (sym t.stage) (record { some = r.grades; ordered = r.good.room; top = r.good.top })

-- none was
module _ {how : Settings} {m : ℕ} {ks w : List ℕ} {n : ℕ} {low : Condition} (room : Room w ks n) (is : IsLowest ks low) (none : left (front_stage ks w) ≡ front_stage ks w) where
  pub planned : {r : Choice} {w' : List ℕ} → Doing how m (front_stage ks w) w r w' → Planned how m ks w (record { places = ks; cells = n; low = low; choice = r }) w'
  planned d = record { places = ap (λ (z : Stage). z.ks) (sym none); own = room.own; lowest = is; does = does-same (sym none) refl d }

-- what the masks of a stage tell
module _ {m : ℕ} {ks w : List ℕ} {n : ℕ} {low : Condition} (room : Room w ks n) (is : IsLowest ks low) (masks : Known m ks w) (eight : length ks ≡ 8) where
  pub number-below : 2 ≤ width ks → low.number < 8
  number-below h = let e = is.number in let l = present_lt ks (lowest ks) (lowest-present ks room.shaped.some (omega arith)) in omega arith

  -- for either gate a mask has all conditions
  pub full_plan : (how : Settings) → 2 ≤ width ks → both_full w n low.number ≡ true → Planned how m ks w (record { places = ks; cells = n; low = low; choice = Split }) w
  full_plan how wide e =
      planned room is both.0
      (record { finds = record { wide = wide; is = both.1; stage = refl; masks = masks }; len = refl })
    where
      here : T (both_full w (cells ks) (lowest ks))
      here = subst T (sym (ap₂ (both_full w) (sym room.own) (sym is.number) ∙ e)) tt

      both : (left (front_stage ks w) ≡ front_stage ks w) × (chosen how m (front_stage ks w) ≡ split)
      both =
          let c = cells ks in
          full_split ks m (front_stage ks w).limits eight how (part w (2 * c) c) (part w (3 * c) c) (masks.masks Max) (masks.masks Min)
          (passed (some_full c (part w (2 * c) c) (lowest ks)) (and_l (some_full c (part w (2 * c) c) (lowest ks)) (some_full c (part w (3 * c) c) (lowest ks)) here))
          (passed (some_full c (part w (3 * c) c) (lowest ks)) (and_r (some_full c (part w (2 * c) c) (lowest ks)) (some_full c (part w (3 * c) c) (lowest ks)) here))

  -- each condition is in some mask
  pub seen_none : {s : ℕ} → Union n (part w (2 * n) n) every s → is_full_from low.number s ≡ true → left (front_stage ks w) ≡ front_stage ks w
  seen_none {s} u e =
      seen_left ks m (front_stage ks w).limits eight (part w (2 * cells ks) (cells ks)) s (masks.masks Max)
      (subst (λ (k : ℕ). Union k (part w (2 * k) k) every s) room.own u) (ap (λ (k : ℕ). is_full_from k s) (sym is.number) ∙ e)

-- of a stage with one condition, a mask has it
module _ {m : ℕ} {ks w : List ℕ} {n : ℕ} {low : Condition} {known : Bool} (room : Room w ks n) (is : IsLowest ks low) (all : low.values ≡ n) (eight : length ks ≡ 8) where
  pub kept_plan : {how : Settings} → keeps_last w n low.number known ≡ true → (known ≡ true → Known m ks w) → Planned how m ks w (record { places = ks; cells = n; low = low; choice = Leaf }) w
  kept_plan e k = planned room is none (does-leaf room is all)
    where
      kept : T (keeps_last w n low.number known)
      kept = subst T (sym e) tt

      there : T (ltb low.number 8 && not (none_has n (part w (2 * n) n) low.number))
      there = and_r known (ltb low.number 8 && not (none_has n (part w (2 * n) n) low.number)) kept

      one : width ks ≡ 1
      one =
          let l = ltb→lt low.number 8 (and_l (ltb low.number 8) (not (none_has n (part w (2 * n) n) low.number)) there) in
          let f = is.number in
          let a = narrow-here room is all in
          let b = some_left ks room.shaped.some (omega arith) in
          omega arith

      refused : none_has (cells ks) (part w (2 * cells ks) (cells ks)) (lowest ks) ≡ false
      refused =
          ap₂ (λ (c i : ℕ). none_has c (part w (2 * c) c) i) (sym room.own) (sym is.number)
          ∙ not-true (none_has n (part w (2 * n) n) low.number)
          (passed (not (none_has n (part w (2 * n) n) low.number)) (and_r (ltb low.number 8) (not (none_has n (part w (2 * n) n) low.number)) there))

      none : left (front_stage ks w) ≡ front_stage ks w
      none =
          refused-left ks m (front_stage ks w).limits (part w (2 * cells ks) (cells ks))
          ((k (passed known (and_l known (ltb low.number 8 && not (none_has n (part w (2 * n) n) low.number)) kept))).masks Max)
          (λ i p. ap (none_has (cells ks) (part w (2 * cells ks) (cells ks))) (only_lowest ks room.shaped.some one i p) ∙ refused)

-- none left or one: the limits are at the front
ends_with : {ks w : List ℕ} {l w' : List ℕ} {n : ℕ} {low : Condition} → Turned left ks w l w' → n ≡ cells l → IsLowest l low → width l < 2
    → Ends ks w (record { places = l; cells = n; low = low; choice = Leaf }) w'
ends_with {ks} {w} {l} {w'} t e is narrow =
    record {
      planned = λ how m.
          let p = ap (λ (z : Stage). z.ks) t.stage in
          record {
            places = p;
            own = e;
            lowest = is;
            does =
                record {
                  finds =
                      subst (λ (y : Stage). Leaves y w') t.stage (record { narrow = narrow; stage = refl });
                  len = t.len;
                };
          };
    }

-- a stage with one condition or none
module _ {ks w : List ℕ} {n : ℕ} {low : Condition} (room : Room w ks n) (is : IsLowest ks low) (all : low.values ≡ n) where
  pub ends_all : {w' : List ℕ} → Turned left ks w ks w' → Ends ks w (record { places = ks; cells = n; low = low; choice = Leaf }) w'
  ends_all t = ends_with t room.own is (narrow-here room is all)

  module _ (some : low.number < 8) (eight : length ks ≡ 8) {l w' : List ℕ} (e : l ≡ without (singleton low.number) ks) (t : Turned left ks w (without (singleton low.number) ks) w') where
    no_condition : width l ≡ 0
    no_condition =
        let f = is.number in
        let p = room.shaped.some in
        let one : width ks < 2 = narrow-here room is all in
        let two : 1 ≤ width ks = some_left ks p (omega arith) in
        let q : width l ≡ width (without (singleton (lowest ks)) ks) = ap width (e ∙ ap (λ (i : ℕ). without (singleton i) ks) f) in
        let r = lowest-width ks p two in
        omega arith

    pub ends_one : {low' : Condition} → IsLowest l low' → Ends ks w (record { places = l; cells = 1; low = low'; choice = Leaf }) w'
    ends_one is' =
        ends_with (subst (λ (b : List ℕ). Turned left ks w b w') (sym e) t)
        (sym (no_width l (as_shaped e (fewer-shaped (singleton low.number) room.shaped)).some no_condition)) is'
        (let z = no_condition in omega arith)

-- whether the last condition was dropped
module _ {ks w w' : List ℕ} (b : List ℕ) {r : Bool} where
  pub dropped_yes : r ≡ true → Turned left ks w (cond r b ks) w' → Turned left ks w b w'
  dropped_yes e t = subst (λ (q : Bool). Turned left ks w (cond q b ks) w') e t

  pub dropped_no : r ≡ false → Turned left ks w (cond r b ks) w' → Turned left ks w ks w'
  dropped_no e t = subst (λ (q : Bool). Turned left ks w (cond q b ks) w') e t
