-- Laws of step 1 in a stage's buffer.
use Prim.Native.Nat.{ℕ, suc, ◌+◌, ◌*◌, ◌≤◌, ◌<◌}
use mathlib.Core.Path.{◌≡◌, refl, sym, ◌∙◌, ap, ap₂, subst}
use mathlib.Core.Bool.{Bool, true, false, cond}
use mathlib.Core.List.{List}
use native.Mathlib.Nat.{zero-add}
use native.Mathlib.Omega.{arith}
use lib.ListN.{length, get_or}
use Rattle.rules.specs.Bytes.{numbers_from}
use Rattle.rules.specs.Cell.{Positive, cells, step, singleton, without, over, moved}
use Rattle.rules.specs.Stage.{Stage, outside, merged, drop_one, drops}
use Rattle.laws.proofs.TableLaws.{length-tabulate_from}
use Rattle.laws.proofs.CellLaws.{length_without, without-cells, without_pos}
use Rattle.laws.proofs.LineLaws.{step-without}
use Rattle.laws.proofs.LoopLaws.{step_start, step_le, step-more, drops-next}
use Rattle.laws.proofs.StageLaws.{drops_shrunk}
use Rattle.tables.specs.Part.{part, Laid, Shaped}
use Rattle.tables.specs.Line.{best, line_extremes, Counts}
use Rattle.tables.proofs.PartLaws.{part_same, laid-part}
use Rattle.tables.proofs.OverLaws.{Counted}
use Rattle.tables.proofs.PackLaws.{packed_cells, packed_over}
use Rattle.stage_drops.specs.Working.{Room, front_stage, Turned}

pub fewer-shaped : (t : ℕ) {ks : List ℕ} → Shaped ks → Shaped (without t ks)
fewer-shaped t {ks} h = let l = without-cells t ks h.some in let f = h.few in record { some = without_pos t ks h.some; few = omega arith }

pub as_shaped : {a b : List ℕ} → a ≡ b → Shaped b → Shaped a
as_shaped e h = subst Shaped (sym e) h

-- the stage over the places b, under two tables
abbrev pub stage_of : List ℕ → List ℕ → List ℕ → Stage
stage_of b l u = record { ks = b; limits = record { lower = l; upper = u } }

-- the lower limits packed, then the upper ones right behind them
pub both_packed : {w w₁ w₂ ks : List ℕ} {c i stp crd count : ℕ} → Room w ks c → i < length ks → Counted ks i stp crd count
    → Laid w 0 (line_extremes true w 0 stp crd count) (stp * count) w₁ → Laid w₁ (stp * count) (line_extremes false w₁ c stp crd count) (stp * count) w₂
    → Turned (λ x. outside (singleton i) x (merged i x)) ks w (without (singleton i) ks) w₂
both_packed {w} {w₁} {w₂} {ks} {c} {i} {stp} {crd} {count} m h n l u =
    record {
      stage = ap₂ (stage_of b) lows highs;
      len = u.len ∙ l.len;
    }
  where
    b : List ℕ
    b = without (singleton i) ks

    k : stp * count ≡ cells b
    k = packed_cells m.shaped.some h n

    fewer : cells b ≤ cells ks
    fewer = without-cells (singleton i) ks m.shaped.some

    lower : List ℕ
    lower = moved ks b (over (best true) ks (singleton i) (part w 0 (cells ks)))

    upper : List ℕ
    upper = moved ks b (over (best false) ks (singleton i) (part w₁ c (cells ks)))

    l' : Laid w 0 lower (cells b) w₁
    l' = packed_over m.shaped.some h n true 0 l

    u' : Laid w₁ (stp * count) upper (cells b) w₂
    u' = packed_over m.shaped.some h n false c u

    room : cells b + cells b ≤ length w
    room = let o = m.own in let r = m.room in let f = fewer in omega arith

    lows : part w₂ 0 (cells b) ≡ moved ks b (over (best true) ks (singleton i) (part w 0 (cells ks)))
    lows =
        part_same w₁ w₂ 0 (cells b) (let e = l.len in omega (arith, room)) u.len (λ j lt. u.before (0 + j) (omega (arith, k)))
        ∙ laid-part l' (omega (arith, room)) (length-tabulate_from _ 0 (cells b))

    kept : part w₁ c (cells ks) ≡ part w c (cells ks)
    kept = part_same w w₁ c (cells ks) (let o = m.own in let r = m.room in omega arith) l.len (λ j lt. l.after (c + j) (let o = m.own in omega (arith, k, fewer)))

    highs : part w₂ (cells b) (cells b) ≡ moved ks b (over (best false) ks (singleton i) (part w (cells ks) (cells ks)))
    highs =
        ap (λ (a : ℕ). part w₂ a (cells b)) (sym k)
        ∙ laid-part u' (let e = l.len in omega (arith, room, k)) (length-tabulate_from _ 0 (cells b))
        ∙ ap (λ (t : List ℕ). moved ks b (over (best false) ks (singleton i) t)) (kept ∙ ap (λ (a : ℕ). part w a (cells ks)) m.own)

-- the conditions below i tried
abbrev pub Tried : List ℕ → ℕ → List ℕ → List ℕ → List ℕ → Type 0
Tried ks i w r w' = Turned (drops (numbers_from 0 i)) ks w r w'

pub tried-none : (ks w : List ℕ) → Tried ks 0 w ks w
tried-none ks w = record { stage = refl; len = refl }

pub tried-more : {ks w r w' r' w'' : List ℕ} (i : ℕ) → Tried ks i w r w' → Turned (drop_one i) r w' r' w'' → Tried ks (i + 1) w r' w''
tried-more {ks} {w} {r} {w'} {r'} {w''} i t u =
    let next : suc i ≡ i + 1 = omega arith in
    record {
      stage =
          u.stage ∙ ap (drop_one i) t.stage ∙ ap (λ (k : ℕ). drop_one k (drops (numbers_from 0 i) (front_stage ks w))) (sym (zero-add i))
          ∙ sym (drops-next 0 i (front_stage ks w)) ∙ ap (λ (n : ℕ). drops (numbers_from 0 n) (front_stage ks w)) next;
      len = u.len ∙ t.len;
    }

pub tried-room : {ks w r w' : List ℕ} {c n : ℕ} (i : ℕ) → Room w ks c → n ≡ cells r → Tried ks i w r w' → Room w' r n
tried-room {ks} {w} {r} {w'} {c} {n} i m q t =
    let s = drops_shrunk (numbers_from 0 i) (front_stage ks w) m.shaped.some in
    let e : r ≡ (drops (numbers_from 0 i) (front_stage ks w)).ks = ap (λ (x : Stage). x.ks) t.stage in
    let less : cells r ≤ cells ks = subst (λ (k : List ℕ). cells k ≤ cells ks) (sym e) s.less in
    let f = m.shaped.few in
    let o = m.own in
    let room = m.room in
    let l = t.len in
    record { shaped = record { some = subst Positive (sym e) s.pos; few = omega arith }; own = q; room = omega arith }

-- a loop's state: the conditions below j tried, the places, cells and limits that are left, and the step of condition i
pub record Going (ks w : List ℕ) (j i : ℕ) (r : List ℕ) (n stp : ℕ) (w' : List ℕ) : Type 0 where
  pub len : length r ≡ length ks
  pub count : n ≡ cells r
  pub step_is : stp ≡ step r i
  pub tried : Tried ks j w r w'

pub going_none : {ks w : List ℕ} {c : ℕ} → Room w ks c → Going ks w 0 0 ks c 1 w
going_none {ks} {w} {c} m = record { len = refl; count = m.own; step_is = sym (step_start ks); tried = tried-none ks w }

module _ {ks w : List ℕ} {i : ℕ} {r : List ℕ} {n stp : ℕ} {w' : List ℕ} where
  pub going_try : {c : ℕ} → Room w ks c → i < 8 → Going ks w i i r n stp w' → Counts r i n stp × Room w' r n
  going_try m h g = (record { place = h; count = g.count; step_is = g.step_is }, tried-room i m g.count g.tried)

  module _ (g : Going ks w i i r n stp w') (q : Bool) {w'' : List ℕ} (u : Turned (drop_one i) r w' (cond q (without (singleton i) r) r) w'') where
    -- condition i is dropped, or stays
    pub going_less : q ≡ true → {b : List ℕ} {m : ℕ} → b ≡ without (singleton i) r → m ≡ cells b → Going ks w (i + 1) i b m stp w''
    going_less e {b} {m} eb em =
        record {
          len = ap length eb ∙ length_without (singleton i) r ∙ g.len;
          count = em;
          step_is = g.step_is ∙ sym (step-without r i) ∙ ap (λ (l : List ℕ). step l i) (sym eb);
          tried = tried-more i g.tried (subst (λ (l : List ℕ). Turned (drop_one i) r w' l w'') (sym eb) (subst (λ (x : Bool). Turned (drop_one i) r w' (cond x (without (singleton i) r) r) w'') e u));
        }

    pub going_same : q ≡ false → {b : List ℕ} {m : ℕ} → b ≡ r → m ≡ n → Going ks w (i + 1) i b m stp w''
    going_same e {b} {m} eb em =
        let v = subst (λ (x : Bool). Turned (drop_one i) r w' (cond x (without (singleton i) r) r) w'') e u in
        subst (λ (l : List ℕ). Going ks w (i + 1) i l m stp w'') (sym eb) (record { len = g.len; count = em ∙ g.count; step_is = g.step_is; tried = tried-more i g.tried v })

  -- on to the next condition
  module _ (g : Going ks w (i + 1) i r n stp w') (h : i < length ks) where
    next : stp * get_or r i 0 ≡ step r (i + 1)
    next = step-more r i stp (let e = g.len in omega arith) g.step_is

    pub going_on : Going ks w (i + 1) (i + 1) r n (stp * get_or r i 0) w'
    going_on = record { len = g.len; count = g.count; step_is = next; tried = g.tried }

    pub going_low : {c : ℕ} → Room w ks c → stp * get_or r i 0 ≤ 1024
    going_low m =
        let t = tried-room (i + 1) m g.count g.tried in
        let few = t.shaped.few in
        omega (arith, next, step_le r (i + 1) t.shaped.some)
