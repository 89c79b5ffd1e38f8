-- The stage at the front again, after its limits were turned.
use Prim.Native.Nat.{ℕ, ◌+◌, ◌-◌, ◌*◌, ◌≤◌, ◌<◌}
use mathlib.Core.Path.{◌≡◌, refl, sym, ◌∙◌, ap, ap₂, subst}
use mathlib.Core.List.{List}
use mathlib.Core.Logic.{inr}
use native.Mathlib.Nat.{zero-add, le_trans}
use native.Mathlib.Omega.{arith}
use lib.ListN.{length}
use lib.Seq.{ext_get_or}
use Rattle.rules.specs.declared.Gate.{Gate}
use Rattle.rules.specs.declared.Gate.TheVariants.{Min, Max}
use Rattle.rules.specs.Bytes.{at}
use Rattle.rules.specs.Cell.{cells}
use Rattle.rules.specs.Limits.{Limits, limits_of}
use Rattle.rules.specs.Stage.{Stage}
use Rattle.rules.specs.Join.{complement, exchange_for}
use Rattle.laws.proofs.TableLaws.{length-tabulate_from}
use Rattle.laws.proofs.GateLaws.{Good, complement-at, exchange_for_good}
use Rattle.tables.specs.Part.{part}
use Rattle.tables.proofs.PartLaws.{part_at, part_length}
use Rattle.masks.specs.Masks.{Known}
use Rattle.mask_making.specs.Making.{Space, Made}
use Rattle.mask_making.proofs.KeptLaws.{kept-part}
use Rattle.mask_making.proofs.MadeLaws.{made_known}
use Rattle.stage_drops.specs.Working.{Room, front_stage}
use Rattle.stage_blocks.specs.Blocks.{stage_of}
use Rattle.weak_joins.specs.Opening.{Limited, Turnable, Turns, Turned, CanRestore, Restored}
use Rattle.weak_joins.proofs.OpenLaws.{parts, room-same, proper_good, turnable}

-- to turn limits twice changes nothing
complement_twice : (ks : List ℕ) (m : ℕ) (t : List ℕ) → ((c : ℕ) → c < cells ks → at t c ≤ m - 1) → length t ≡ cells ks → complement ks m (complement ks m t) ≡ t
complement_twice ks m t h e =
    let s = length-tabulate_from (λ c. m - 1 - at (complement ks m t) c) 0 (cells ks) in
    ext_get_or 0 (complement ks m (complement ks m t)) t (s ∙ sym e)
    (λ c lt. let q : c < cells ks = omega arith in omega (arith, complement-at ks m (complement ks m t) c q, complement-at ks m t c q, h c q))

turned_twice : (gate : Gate) (ks : List ℕ) (m : ℕ) (l : Limits) → Good ks m l → length l.lower ≡ cells ks → length l.upper ≡ cells ks
    → exchange_for gate ks m (exchange_for gate ks m l) ≡ l
turned_twice Max ks m l g e f = refl
turned_twice Min ks m l g e f =
    ap₂ limits_of (complement_twice ks m l.lower (λ c h. le_trans (g.room c h) (g.top c h)) e) (complement_twice ks m l.upper g.top f)

-- good limits at the front
front-is : {w ks : List ℕ} {n : ℕ} {l : Limits} → n ≡ cells ks → Limited l n n w → front_stage ks w ≡ stage_of ks l
front-is {w} {ks} own here = ap (stage_of ks) (ap₂ limits_of (ap (part w 0) (sym own) ∙ here.lows) (ap (λ (k : ℕ). part w k k) (sym own) ∙ here.highs))

module _ {w ks : List ℕ} {m n : ℕ} {l : Limits} (room : Room w ks n) (good : Good ks m l) (here : Limited l n n w) where
  space : Space w ks n
  space =
      let r = room.room in
      record {
        shaped = room.shaped;
        own = room.own;
        room = omega arith;
        ordered = λ c h.
            subst (λ (a : ℕ). a ≤ at w (n + c)) (byte 0 here.lows c h ∙ ap (at w) (zero-add c))
            (subst (λ (b : ℕ). at l.lower c ≤ b) (byte n here.highs c h) (good.room c (subst (λ (k : ℕ). c < k) room.own h)));
      }
    where
      byte : {t : List ℕ} (a : ℕ) → part w a n ≡ t → (c : ℕ) → c < n → at t c ≡ at w (a + c)
      byte a e c h = ap (λ (u : List ℕ). at u c) (sym e) ∙ part_at w a n c h

  -- their masks made
  made : {w' : List ℕ} → Made w ks n w' → (front_stage ks w' ≡ stage_of ks l) × Known m ks w'
  made {w'} d = (
    front-is {ks = ks} room.own (record { lows = kept 0 (omega arith) ∙ here.lows; highs = kept n (omega arith) ∙ here.highs }),
    made_known m space (subst (λ (x : Stage). Good ks m x.limits) (sym (front-is {ks = ks} room.own here)) good) d,
  )
    where
      kept : (a : ℕ) → a ≤ n → part w' a n ≡ part w a n
      kept = kept-part space (record { len = d.len; limits = d.limits })

-- limits that were turned, turned back
module _ {gate : Gate} {w ks : List ℕ} {m n : ℕ} (room : Room w ks n) where
  turned-limits : {l : Limits} → Turned gate m ks l n w → Limited (exchange_for gate ks m l) (5 * n) n w
  turned-limits t = record { lows = t.lows; highs = t.highs }

  turned_good : (c : CanRestore gate m ks n w) → Good ks m (exchange_for gate ks m c.limits)
  turned_good c = exchange_for_good ks m gate c.limits (proper_good c.proper)

  pub turnable_back : CanRestore gate m ks n w → Turnable m (5 * n) n n w
  turnable_back c =
      turnable (exchange_for gate ks m c.limits) (5 * n) n room.own c.proper.some (omega arith) (omega arith)
      (parts room (5 * n) n (omega arith) (omega arith) (inr (omega arith))) (turned_good c) (turned-limits c.turned)

  module _ {w₁ : List ℕ} (t : Turns gate m (5 * n) n n w w₁) where
    back-here : {l : Limits} → Turned gate m ks l n w → Limited (exchange_for gate ks m (exchange_for gate ks m l)) n n w₁
    back-here {l} u = t.limits ks (exchange_for gate ks m l) room.own (turned-limits u)

    pub space-back : CanRestore gate m ks n w → Space w₁ ks n
    space-back c =
        space (room-same t.len room) (exchange_for_good ks m gate (exchange_for gate ks m c.limits) (turned_good c)) (back-here c.turned)

    pub restored : {w₂ : List ℕ} → Made w₁ ks n w₂ → Restored gate m ks n w w₂
    restored d =
        record {
          stage = λ w₀ long proper u.
              let l = (front_stage ks w₀).limits in
              let own = room.own in
              let e = turned_twice gate ks m l (proper_good proper) (part_length w₀ 0 (cells ks) (omega arith)) (part_length w₀ (cells ks) (cells ks) (omega arith)) in
              made (room-same t.len room) (proper_good proper) (subst (λ (x : Limits). Limited x n n w₁) e (back-here u)) d;
          len = d.len ∙ t.len;
        }
