-- Laws of steps 3 and 4: the two groupings, the choice between them, and its tables.
use Prim.Native.Nat.{ℕ, ◌+◌, ◌-◌, ◌*◌, ◌≤◌, ◌<◌}
use mathlib.Core.Path.{◌≡◌, refl, sym, ◌∙◌, ap, ap₂, subst}
use mathlib.Core.Bool.{Bool, true, false, cond}
use mathlib.Core.List.{List}
use native.Mathlib.Nat.{le_trans}
use native.Mathlib.Omega.{arith}
use lib.ListN.{length}
use Rattle.std.specs.Prelude.{Option, Some}
use Rattle.rules.specs.declared.Gate.{Gate}
use Rattle.rules.specs.declared.Gate.TheVariants.{Min, Max}
use Rattle.rules.specs.declared.Settings.{Settings}
use Rattle.rules.specs.Bytes.{at, numbers_from}
use Rattle.rules.specs.Cell.{cells, present}
use Rattle.rules.specs.Join.{exchange_for, join_exists}
use Rattle.rules.specs.Stage.{Stage, first_pair, joining, grouping, groups, keeps_max, choose}
use Rattle.tables.specs.Part.{part, Shaped}
use Rattle.tables.proofs.PartLaws.{part_at, part_same}
use Rattle.join_tables.specs.Parts.{Below}
use Rattle.masks.specs.Masks.{mask_part, Known}
use Rattle.masks.specs.Searching.{FirstPair, Searched}
use Rattle.grouping.specs.declared.Sets.{Sets}
use Rattle.grouping.specs.Joining.{joins, joins_at}
use Rattle.grouping.specs.Growing.{Held, Space, First, Grouped}
use Rattle.grouping.proofs.KeptLaws.{cells-apart, kept-part}
use Rattle.stage_choice.specs.declared.Choice.{Choice}
use Rattle.stage_choice.specs.declared.Choice.TheVariants.{Leaf, Split, Join}
use Rattle.stage_choice.specs.Choosing.{Does, found_sets, Spaced, Exchangeable, Exchanged, limits_at, Stays, Limited, LimitsLaid, Tabled, Sought, Taken, Decided, Settled, Prepared, Chosen}
use Rattle.stage_drops.specs.Working.{Room, front_stage, Proper, ForBoth}
use Rattle.stage_drops.proofs.DropLaws.{stage_of}
use Rattle.stage_choice.proofs.SpaceLaws.{ahead, behind}

-- a choice between two groupings that are known
pub decided : {tie : Gate} {a b : Option Sets} (x y : Option Sets) (r : Choice) → a ≡ x → b ≡ y → Does r (choose tie (found_sets x) (found_sets y)) → Taken x y r → Decided tie a b r
decided {tie} {a} {b} x y r ea eb e t =
    subst (λ (z : Option Sets). Decided tie z b r) (sym ea) (subst (λ (z : Option Sets). Decided tie x z r) (sym eb) (record { is = e; taken = t }))

module _ (tie : Gate) {a b : Option Sets} {p q : Sets} (ea : a ≡ Some p) (eb : b ≡ Some q) {k : Bool} (e : k ≡ keeps_max tie p.s p.t q.s q.t) where
  kept_choice : (v : Bool) → k ≡ v → choose tie (found_sets (Some p)) (found_sets (Some q)) ≡ cond v (joining Max p.s p.t) (joining Min q.s q.t)
  kept_choice v h = ap (λ (z : Bool). cond z (joining Max p.s p.t) (joining Min q.s q.t)) (sym e ∙ h)

  pub decided_both : (v : Bool) → k ≡ v → Decided tie a b (cond v (Join Max p) (Join Min q))
  decided_both true h = decided (Some p) (Some q) (Join Max p) ea eb (kept_choice true h) refl
  decided_both false h = decided (Some p) (Some q) (Join Min q) ea eb (kept_choice false h) refl

-- the parts that a grouping works in
pub space : {w ks : List ℕ} {n : ℕ} → Shaped ks → n ≡ cells ks → Spaced w n → (low : ℕ) → low + n + n + n ≤ 8 * n → Space w ks low (low + n + n) (low + n)
space {n = n} h e s low l =
    record {
      shaped = h;
      first = cells-apart (sym e) (ahead s low (low + n + n) (omega arith) (omega arith));
      second = cells-apart (sym e) (ahead s low (low + n) (omega arith) (omega arith));
      both = cells-apart (sym e) (behind s (low + n + n) (low + n) (omega arith) (omega arith));
    }

pub room-spaced : {w ks : List ℕ} {n : ℕ} → Room w ks n → Spaced w n
room-spaced p = record { room = p.room }

pub own-length : {w ks : List ℕ} {n : ℕ} → Room w ks n → 8 * cells ks ≤ length w
own-length p = let r = p.room in let e = p.own in omega arith

-- the tables of a gate's grouping are within the eight parts
pub limits-inside : (gate : Gate) (n : ℕ) {r : ℕ} → r ≡ limits_at gate n → r + n + n + n ≤ 8 * n
limits-inside gate n {r} e = go gate e
  where
    go : (by : Gate) → r ≡ limits_at by n → r + n + n + n ≤ 8 * n
    go Max e = omega arith
    go Min e = omega arith

-- a pair that is known
pub pair_is : {ks : List ℕ} {js : ℕ → ℕ → Bool} {r r' : Option (ℕ × ℕ)} → r ≡ r' → FirstPair ks js r → FirstPair ks js r'
pair_is {ks} {js} e f = subst (FirstPair ks js) e f

-- a table of grades
below_of : {w : List ℕ} {a n m : ℕ} → ((k : ℕ) → k < n → at (part w a n) k ≤ m - 1) → Below w a n m
below_of {w} {a} {n} {m} h = record { grade = λ k l. subst (λ (g : ℕ). g ≤ m - 1) (part_at w a n k l) (h k l) }

-- the limits as the join of a gate wants them
module _ {w ks : List ℕ} {m n : ℕ} (p : Room w ks n) where
  pub exchangeable : Proper m (front_stage ks w) → Exchangeable w m n
  exchangeable r =
      let s = subst (Spaced w) p.own (room-spaced p) in
      subst (Exchangeable w m) (sym p.own)
      (record { spaced = s; some = r.some; lows = below_of (λ k h. le_trans (r.ordered k h) (r.top k h)); highs = below_of r.top })

  pub laid-min : {w' : List ℕ} → Exchanged m n w w' → LimitsLaid Min m ks n w (3 * n) w'
  laid-min {w'} e =
      let x = subst (λ (k : ℕ). Exchanged m k w w') p.own e in
      let c = cells ks in
      let q : 4 * c ≡ 3 * c + c = omega arith in
      record {
        place = refl;
        limits =
            subst (λ (k : ℕ). Limited Min m (front_stage ks w) (3 * k) w') (sym p.own)
            (record { lows = x.lows; highs = ap (λ (a : ℕ). part w' a c) (sym q) ∙ x.highs });
        kept = λ j h. e.kept.other j (λ a b. omega arith) (λ a b. omega arith);
        len = e.kept.len;
      }

-- the grouping for a gate, from the first pair that joins by it
module _ (gate : Gate) (m : ℕ) (w ks : List ℕ) where
  abbrev x : Stage
  x = front_stage ks w

  abbrev gate_joins : ℕ → ℕ → Bool
  gate_joins a b = join_exists gate ks m a b x.limits

  -- all places are asked
  whole : length ks ≡ 8 → grouping (present ks) gate_joins (numbers_from 0 8) ≡ groups m x gate
  whole eight = ap (λ (k : ℕ). grouping (present ks) gate_joins (numbers_from 0 k)) (sym eight)

  module _ {n r : ℕ} {w₁ : List ℕ} (own : n ≡ cells ks) (l : LimitsLaid gate m ks n w r w₁) where
    high-here : part w₁ (r + n) (cells ks) ≡ (exchange_for gate ks m x.limits).upper
    high-here = ap (λ (k : ℕ). part w₁ (r + k) (cells ks)) own ∙ l.limits.highs

    joins-here : (λ a b. join_exists gate ks m a b x.limits) ≡ joins_at ks w₁ r (r + n)
    unfolding joins
    joins-here = ap₂ (joins ks) (sym l.limits.lows) (sym high-here)

    pub first-here : {i j : ℕ} → FirstPair ks gate_joins (Some (i, j)) → First (joins_at ks w₁ r (r + n)) ks i j
    first-here f =
        record {
          rising = f.rising.0;
          last = f.rising.1;
          is = f.is ∙ ap (λ (js : ℕ → ℕ → Bool). first_pair (present ks) js (numbers_from 0 8)) joins-here;
        }

    pub sought_some : length ks ≡ 8 → {of : Sets} {w₂ : List ℕ} → Space w₁ ks r (r + n + n) (r + n) → Grouped w₁ ks r (r + n) (r + n + n) (r + n) of w₂
        → Sought gate m ks w (Some of) w₂
    sought_some eight {of} {w₂} s g =
        record {
          is = g.is ∙ ap (λ (js : ℕ → ℕ → Bool). grouping (present ks) js (numbers_from 0 8)) (sym joins-here) ∙ whole eight;
          tables = λ p e. subst (λ (q : Sets). Tabled gate m x (limits_at gate (cells ks)) q w₂) (cc) (subst (λ (a : ℕ). Tabled gate m x a of w₂) place tabled);
          off = λ e. cc;
          kept = λ j h. g.kept.other j (apart j h).0 (apart j h).1 ∙ l.kept j (stays j h);
          len = g.kept.len ∙ l.len;
        }
      where
        place : r ≡ limits_at gate (cells ks)
        place = l.place ∙ ap (limits_at gate) own

        tabled : Tabled gate m x r of w₂
        tabled =
            record {
              lows = kept-part s.first s.second g.kept ∙ l.limits.lows;
              held =
                  subst (λ (u : List ℕ). Held ks u of.s of.t (r + cells ks + cells ks) (r + cells ks) w₂) high-here
                  (subst (λ (k : ℕ). Held ks (part w₁ (r + n) (cells ks)) of.s of.t (r + k + k) (r + k) w₂) own g.held);
            }

        -- what the gate's grouping leaves as it was is none of its tables
        stays : (j : ℕ) → Stays gate (cells ks) j → Stays gate n j
        stays j h = subst (λ (k : ℕ). Stays gate k j) (sym own) h

        apart : (j : ℕ) → Stays gate (cells ks) j → (r + n + n ≤ j → j < r + n + n + cells ks → ⊥) × (r + n ≤ j → j < r + n + cells ks → ⊥)
        apart j h = go gate l.place h
          where
            go : (by : Gate) → r ≡ limits_at by n → Stays by (cells ks) j → (r + n + n ≤ j → j < r + n + n + cells ks → ⊥) × (r + n ≤ j → j < r + n + cells ks → ⊥)
            go Max e h = (λ a b. omega arith, λ a b. omega arith)
            go Min e h = (λ a b. omega arith, λ a b. omega arith)

-- both groupings sought, the one for min first: the stage stays at the front for the other
module _ {m : ℕ} {ks w : List ℕ} (long : 8 * cells ks ≤ length w) {b : Option Sets} {w₁ : List ℕ} (min : Sought Min m ks w b w₁) where
  pub same-front : front_stage ks w₁ ≡ front_stage ks w
  same-front = ap₂ (stage_of ks) (stay 0 (omega arith)) (stay (cells ks) (omega arith))
    where
      stay : (a : ℕ) → a + cells ks ≤ 2 * cells ks → part w₁ a (cells ks) ≡ part w a (cells ks)
      stay a h = part_same w w₁ a (cells ks) (omega arith) min.len (λ j lt. min.kept (a + j) (omega arith))

  module _ {a : Option Sets} {w₂ : List ℕ} (max : Sought Max m ks w₁ a w₂) where
    behind_max : (i : ℕ) → 3 * cells ks ≤ i → i + cells ks ≤ 8 * cells ks → part w₂ i (cells ks) ≡ part w₁ i (cells ks)
    behind_max i h l = let e = min.len in part_same w₁ w₂ i (cells ks) (omega arith) max.len (λ j lt. max.kept (i + j) (omega arith))

    -- the tables of the choice
    for_both : {gate : Gate} {low : ℕ} {of : Sets} {v w₃ : List ℕ} → Tabled gate m (front_stage ks w) low of v → part w₃ 0 (cells ks) ≡ part v low (cells ks)
        → part w₃ (cells ks) (cells ks) ≡ part v (low + cells ks) (cells ks) → part w₃ (2 * cells ks) (cells ks) ≡ part v (low + cells ks + cells ks) (cells ks)
        → ForBoth gate m (front_stage ks w) of.s of.t w₃
    for_both t e f g = record { second = record { lows = e ∙ t.lows; seconds = f ∙ t.held.second }; firsts = g ∙ t.held.first }

    prepared : (w₃ : List ℕ) (r : Choice) → Taken a b r → Settled (cells ks) w₂ r w₃ → Prepared m (front_stage ks w) w r w₃
    prepared w₃ Leaf t e = absurd t
    prepared w₃ Split t e = e ∙ max.off t.0 ∙ min.off t.1
    prepared w₃ (Join Max of) t e =
        let c = cells ks in
        let here : (i k : ℕ) → i ≡ k → part w₃ i c ≡ part w₂ k c = λ i k q. ap₂ (λ (v : List ℕ) (j : ℕ). part v j c) e q in
        for_both (subst (λ (x : Stage). Tabled Max m x 0 of w₂) same-front (max.tables of t)) (here 0 0 refl) (here c (0 + c) (omega arith))
        (here (2 * c) (0 + c + c) (omega arith))
    prepared w₃ (Join Min of) t e =
        let c = cells ks in
        let here : (i k : ℕ) → i ≡ k → 3 * c ≤ i → i + c ≤ 8 * c → part w₂ i c ≡ part w₁ k c =
        λ i k q h l. behind_max i h l ∙ ap (λ (j : ℕ). part w₁ j c) q in
        for_both (min.tables of t) (e.lows ∙ here (3 * c) (3 * c) refl (omega arith) (omega arith)) (e.seconds ∙ here (4 * c) (3 * c + c) (omega arith) (omega arith) (omega arith))
        (e.firsts ∙ here (5 * c) (3 * c + c + c) (omega arith) (omega arith) (omega arith))

    pub is-chosen : (how : Settings) {w₃ : List ℕ} {n : ℕ} (r : Choice) → n ≡ cells ks → Decided how.tie a b r → Settled n w₂ r w₃ → length w₃ ≡ length w
        → Chosen how m (front_stage ks w) w r w₃
    is-chosen how {w₃} r q d e l =
        record {
          is = subst (Does r) (ap₂ (choose how.tie) (max.is ∙ ap (λ (x : Stage). groups m x Max) same-front) min.is) d.is;
          tables = prepared w₃ r d.taken (subst (λ (k : ℕ). Settled k w₂ r w₃) q e);
          len = l;
        }

-- what the two searches for a grouping ask, from the masks
module _ {m : ℕ} {ks w : List ℕ} {n : ℕ} (room : Room w ks n) (proper : Proper m (front_stage ks w)) (k : Known m ks w) where
  pair_of : (op : Gate) {r : Option (ℕ × ℕ)} → Searched ks (part w (mask_part op n) n) r → FirstPair ks (gate_joins op m w ks) r
  pair_of op {r} s = (subst (λ (c : ℕ). Searched ks (part w (mask_part op c) c) r) room.own s).first op m _ (k.masks op)

  pub seek_min : {r : Option (ℕ × ℕ)} → Searched ks (part w (3 * n) n) r → Room w ks n × Proper m (front_stage ks w) × FirstPair ks (gate_joins Min m w ks) r
  seek_min s = (room, proper, pair_of Min s)

  pub seek_max : {r : Option (ℕ × ℕ)} {b : Option Sets} {w₁ : List ℕ} → Searched ks (part w (2 * n) n) r → Sought Min m ks w b w₁
      → Room w₁ ks n × Proper m (front_stage ks w₁) × FirstPair ks (gate_joins Max m w₁ ks) r
  seek_max {r} s q =
      let e = sym (same-front (own-length room) q) in
      let l = room.room in
      let f = q.len in (
        record { shaped = room.shaped; own = room.own; room = omega arith },
        subst (Proper m) e proper,
        subst (λ (x : Stage). FirstPair ks (λ a b. join_exists Max ks m a b x.limits) r) e (pair_of Max s),
      )
