-- Limits turned, and the tables of a weak join made from them.
use Prim.Native.Nat.{ℕ, ◌+◌, ◌-◌, ◌*◌, ◌≤◌, ◌<◌}
use mathlib.Core.Path.{◌≡◌, sym, ◌∙◌, ap, ap₂, subst}
use mathlib.Core.List.{List}
use mathlib.Core.Logic.{◌⊎◌, inl, inr, ⊎_elim}
use native.Mathlib.Nat.{le_trans}
use native.Mathlib.Omega.{arith}
use lib.ListN.{length}
use lib.Seq.{ext_get_or}
use Rattle.rules.specs.declared.Gate.{Gate}
use Rattle.rules.specs.declared.Gate.TheVariants.{Min, Max}
use Rattle.rules.specs.Bytes.{at, tabulate}
use Rattle.rules.specs.Cell.{Positive, cells, singleton, least_over}
use Rattle.rules.specs.Limits.{Limits}
use Rattle.rules.specs.Join.{complement, exchange_for}
use Rattle.laws.proofs.TableLaws.{length-tabulate_from}
use Rattle.laws.proofs.OverLaws.{min-bound}
use Rattle.laws.proofs.GateLaws.{Good}
use Rattle.laws.proofs.WeakLaws.{over_none}
use Rattle.tables.specs.Part.{part, Laid, Two}
use Rattle.tables.proofs.PartLaws.{part_at, part_length, laid-part, laid-apart}
use Rattle.join_tables.specs.Parts.{Below}
use Rattle.join_tables.proofs.TurnLaws.{below-part}
use Rattle.stage_drops.specs.Working.{Room, front_stage, Proper}
use Rattle.stage_blocks.specs.Blocks.{stage_of}
use Rattle.weak_joins.specs.Opening.{Limited, Turnable, Turns, Turned, Reopened, Opened}

-- two parts of a stage's buffer
pub parts : {w ks : List ℕ} {n : ℕ} → Room w ks n → (a b : ℕ) → a + n ≤ 8 * n → b + n ≤ 8 * n → (a + n ≤ b) ⊎ (b + n ≤ a) → Two w a b n
parts room a b h g x = let r = room.room in record { src = omega arith; dst = omega arith; apart = x }

pub room-same : {w ks : List ℕ} {n : ℕ} {w' : List ℕ} → length w' ≡ length w → Room w ks n → Room w' ks n
room-same e room = let r = room.room in record { shaped = room.shaped; own = room.own; room = omega arith }

-- limits that can be turned
pub proper_good : {ks : List ℕ} {m : ℕ} {l : Limits} → Proper m (stage_of ks l) → Good ks m l
proper_good h = record { room = h.ordered; top = h.top }

-- grades of a table are grades of the part that holds it
pub part-below : {w : List ℕ} {a n m : ℕ} (t : List ℕ) → part w a n ≡ t → ((c : ℕ) → c < n → at t c ≤ m - 1) → Below w a n m
part-below {w} {a} {n} {m} t e h =
    record { grade = λ c l. subst (λ (g : ℕ). g ≤ m - 1) (ap (λ (u : List ℕ). at u c) (sym e) ∙ part_at w a n c l) (h c l) }

pub turnable : {w ks : List ℕ} {m n : ℕ} (l : Limits) (from to : ℕ) → n ≡ cells ks → 1 ≤ m → n ≤ from → n ≤ to → Two w from to n → Good ks m l → Limited l from n w
    → Turnable m from to n w
turnable {ks = ks} l from to own some source target two good here =
    record {
      some = some;
      parts = two;
      source = source;
      target = target;
      lows = part-below l.lower here.lows (λ c h. let q : c < cells ks = omega arith in le_trans (good.room c q) (good.top c q));
      highs = part-below l.upper here.highs (λ c h. good.top c (omega arith));
    }

-- turned
complemented : (ks : List ℕ) (m : ℕ) {n : ℕ} {t u : List ℕ} → n ≡ cells ks → t ≡ u → tabulate n (λ c. m - 1 - at t c) ≡ complement ks m u
complemented ks m e f = ap₂ (λ (k : ℕ) (x : List ℕ). tabulate k (λ c. m - 1 - at x c)) e f

module _ {m from to n : ℕ} {w : List ℕ} (p : Turnable m from to n w) where
  front-apart : Two w 0 to n
  front-apart = let d = p.parts.dst in let t = p.target in record { src = omega arith; dst = omega arith; apart = inl (omega arith) }

  front_free : (a : ℕ) {w' : List ℕ} → length w' ≡ length w → n ≤ a → a + n ≤ length w → Two w' a 0 n
  front_free a e h l = record { src = omega arith; dst = omega arith; apart = inr (omega arith) }

  pub turn-first : Two w 0 to n × ((c : ℕ) → c < n → at (part w 0 n) c ≤ m - 1)
  turn-first = (front-apart, below-part p.lows)

  pub turn-second : {t w₁ : List ℕ} → Laid w to t n w₁ → Two w₁ from 0 n × ((c : ℕ) → c < n → at (part w₁ from n) c ≤ m - 1)
  turn-second l = (front_free from l.len p.source p.parts.src, λ c h. rw (laid-apart p.parts l) (below-part p.highs c h))

  pub turns_max : {w' : List ℕ} → Laid w to (part w from n) n w' → Turns Max m from to n w w'
  turns_max k =
      record {
        limits = λ ks l e h.
            record { lows = laid-apart front-apart k ∙ h.lows; highs = laid-part k p.parts.dst (part_length w from n p.parts.src) ∙ h.highs };
        kept = λ a h two. laid-apart two k;
        len = k.len;
      }

  pub turns_min : {w₁ w' : List ℕ} → Laid w to (tabulate n (λ c. m - 1 - at (part w 0 n) c)) n w₁ → Laid w₁ 0 (tabulate n (λ c. m - 1 - at (part w₁ from n) c)) n w'
      → Turns Min m from to n w w'
  turns_min {w₁} {w'} k j =
      record {
        limits = λ ks l e h.
            record {
              lows =
                  laid-part j (let r = k.len in let s = front-apart.src in omega arith) (length-tabulate_from _ 0 n)
                  ∙ complemented ks m e (laid-apart p.parts k ∙ h.highs);
              highs =
                  laid-apart (front_free to k.len p.target p.parts.dst) j ∙ laid-part k p.parts.dst (length-tabulate_from _ 0 n)
                  ∙ complemented ks m e h.lows;
            };
        kept = λ a h two. laid-apart (front_free a k.len h two.src) j ∙ laid-apart two k;
        len = j.len ∙ k.len;
      }

-- over no condition a table is what it was
none_over : (ks u : List ℕ) → Positive ks → length u ≡ cells ks → least_over ks 0 u ≡ u
none_over ks u p e =
    let s = length-tabulate_from _ 0 (cells ks) in
    ext_get_or 0 (least_over ks 0 u) u (s ∙ sym e) (λ c h. over_none min-bound ks u c p (omega arith))

-- two copies of the upper limits, one of them taken over condition i
module _ {w ks : List ℕ} (i : ℕ) {n : ℕ} (room : Room w ks n) {w₁ w₂ w₃ : List ℕ} (x : Laid w (2 * n) (part w (5 * n) n) n w₁) (y : Laid w₁ n (part w₁ (5 * n) n) n w₂)
    (z : Laid w₂ n (least_over ks (singleton i) (part w₂ n n)) n w₃) where
  room₁ : Room w₁ ks n
  room₁ = room-same x.len room

  room₂ : Room w₂ ks n
  room₂ = room-same y.len room₁

  stay : (a : ℕ) → (a + n ≤ n) ⊎ (3 * n ≤ a) → a + n ≤ 8 * n → part w₃ a n ≡ part w a n
  stay a aside h =
      laid-apart (parts room₂ a n h (omega arith) one) z ∙ laid-apart (parts room₁ a n h (omega arith) one) y
      ∙ laid-apart (parts room a (2 * n) h (omega arith) two) x
    where
      one : (a + n ≤ n) ⊎ (n + n ≤ a)
      one = ⊎_elim (λ q. inl q) (λ q. inr (omega arith)) aside

      two : (a + n ≤ 2 * n) ⊎ (2 * n + n ≤ a)
      two = ⊎_elim (λ q. inl (omega arith)) (λ q. inr (omega arith)) aside

  upper-length : length (part w (5 * n) n) ≡ n
  upper-length = let r = room.room in part_length w (5 * n) n (omega arith)

  first_copy : part w₃ (2 * n) n ≡ part w (5 * n) n
  first_copy =
      let r = room.room in
      laid-apart (parts room₂ (2 * n) n (omega arith) (omega arith) (inr (omega arith))) z
      ∙ laid-apart (parts room₁ (2 * n) n (omega arith) (omega arith) (inr (omega arith))) y
      ∙ laid-part x (omega arith) upper-length

  second_copy : part w₃ n n ≡ least_over ks (singleton i) (part w (5 * n) n)
  second_copy =
      let r₁ = room₁.room in
      let r₂ = room₂.room in
      laid-part z (omega arith) (length-tabulate_from _ 0 (cells ks) ∙ sym room.own)
      ∙ ap (least_over ks (singleton i))
      (laid-part y (omega arith) (part_length w₁ (5 * n) n (omega arith)) ∙ laid-apart (parts room (5 * n) (2 * n) (omega arith) (omega arith) (inr (omega arith))) x)

  -- the same places, counted by the cells
  counted : (f : ℕ → ℕ) → part w₃ (f (cells ks)) (cells ks) ≡ part w₃ (f n) n
  counted f = ap (λ (k : ℕ). part w₃ (f k) k) (sym room.own)

  pub reopened : Reopened ks i n w w₃
  reopened =
      record {
        tables = λ gate m l t.
            record {
              second =
                  record {
                    lows = counted (λ k. 0) ∙ stay 0 (inl (omega arith)) (omega arith) ∙ t.lows;
                    seconds = counted (λ k. k) ∙ second_copy ∙ ap (least_over ks (singleton i)) t.highs;
                  };
              firsts =
                  counted (λ k. 2 * k) ∙ first_copy ∙ t.highs
                  ∙ sym (none_over ks (exchange_for gate ks m l).upper room.shaped.some (ap length (sym t.highs) ∙ upper-length ∙ room.own));
            };
        stays = λ gate m l t.
            record { lows = stay 0 (inl (omega arith)) (omega arith) ∙ t.lows; highs = stay (5 * n) (inr (omega arith)) (omega arith) ∙ t.highs };
        kept = stay (4 * n) (inr (omega arith)) (omega arith);
        len = z.len ∙ y.len ∙ x.len;
      }

-- of the stage at the front
module _ {w ks : List ℕ} {n : ℕ} (room : Room w ks n) where
  front-limits : Limited (front_stage ks w).limits n n w
  front-limits = record { lows = ap (part w 0) room.own; highs = ap (λ (k : ℕ). part w k k) room.own }

  pub turnable_front : {m : ℕ} → Proper m (front_stage ks w) → Turnable m n (5 * n) n w
  turnable_front h =
      turnable (front_stage ks w).limits n (5 * n) room.own h.some (omega arith) (omega arith)
      (parts room n (5 * n) (omega arith) (omega arith) (inl (omega arith))) (proper_good h) front-limits

  pub opened : (gate : Gate) {m i : ℕ} {w₁ w₂ : List ℕ} → Turns gate m n (5 * n) n w w₁ → Reopened ks i n w₁ w₂ → Opened gate m ks i n w w₂
  opened gate {m} {i} {w₁} t r =
      let u = t.limits ks (front_stage ks w).limits room.own front-limits in
      let v : Turned gate m ks (front_stage ks w).limits n w₁ = record { lows = u.lows; highs = u.highs } in
      record {
        tables = r.tables gate m _ v;
        limits = r.stays gate m _ v;
        kept = r.kept ∙ t.kept (4 * n) (omega arith) (parts room (4 * n) (5 * n) (omega arith) (omega arith) (inl (omega arith)));
        len = r.len ∙ t.len;
      }
