-- Growing two sets, one condition after the other.
use Prim.Native.Nat.{ℕ, ◌+◌}
use mathlib.Core.Path.{◌≡◌, refl, sym, ◌∙◌, ap, subst}
use mathlib.Core.Bool.{Bool, true, false, cond, ◌||◌}
use mathlib.Core.List.{List}
use native.Mathlib.Nat.{zero-add}
use native.Mathlib.Numerals.{add-one}
use lib.Dec.{T, leb}
use Rattle.std.proofs.lemmas.Bool.{or_parts}
use Rattle.rules.specs.Bytes.{numbers_from}
use Rattle.rules.specs.Cell.{Positive, cells, present, has, insert, singleton, least_over}
use Rattle.rules.specs.Stage.{Grouping, none, sets, count, try_join, add_condition, grow}
use Rattle.laws.proofs.LoopLaws.{grow-next}
use Rattle.tables.specs.Part.{part, Laid}
use Rattle.grouping.specs.Joining.{joins, admits}
use Rattle.grouping.specs.Growing.{Held, Space, Tried, Grows, in_order}
use Rattle.grouping.proofs.JoiningLaws.{admits-joins, joins-turn}
use Rattle.grouping.proofs.KeptLaws.{kept_self, kept_then, kept-turn, kept-laid, kept-part, held-turn, held-add, turn-space}

-- an addition that is made
pub tried_yes : {w ks : List ℕ} {i low keep grow : ℕ} {w' : List ℕ} → true ≡ admits ks i (part w low (cells ks)) (part w keep (cells ks)) (part w grow (cells ks))
    → Laid w grow (least_over ks (singleton i) (part w grow (cells ks))) (cells ks) w' → Tried w ks i low keep grow true w'
tried_yes e l = record { is = e; on = λ q. l; off = λ q. absurd (subst T q tt) }

-- what an addition that was tried says of the join
tried-joins : {w ks : List ℕ} {i low a b : ℕ} {r : Bool} {w' u : List ℕ} {s t : ℕ} → Positive ks → Tried w ks i low a b r w' → Held ks u s t a b w
    → joins ks (part w low (cells ks)) u (insert s i) t ≡ r
tried-joins {w} {ks} {i} {low} {a} {b} {r} {w'} {u} {s} {t} p x h =
    sym (x.is ∙ admits-joins ks i (part w low (cells ks)) u (part w a (cells ks)) (part w b (cells ks)) s t p h.first h.second)

module _ {w ks : List ℕ} {i low a b : ℕ} (s t : ℕ) (p : Space w ks low a b) where
  -- the same of t
  tried-turned : {r : Bool} {w' u : List ℕ} → Tried w ks i low b a r w' → Held ks u s t a b w → joins ks (part w low (cells ks)) u s (insert t i) ≡ r
  tried-turned {u = u} y h = joins-turn ks (part w low (cells ks)) u s (insert t i) ∙ tried-joins p.shaped.some y (held-turn h)

  pub added_first : {r : Bool} {w' : List ℕ} → Tried w ks i low a b r w' → r ≡ true → Grows w ks low a b s t (in_order ks i s t) (insert s i) t w'
  added_first x e =
      record {
        kept = kept-laid a (x.on e);
        is = λ u h. rw (tried-joins p.shaped.some x h, e);
        held = λ u h. held-add i p.shaped.some p.both h (x.on e);
      }

  module _ {q r : Bool} {w' w'' : List ℕ} (x : Tried w ks i low a b q w') (e : q ≡ false) (z : Tried w' ks i low b a r w'') where
    -- a first try that fails leaves the buffer as it was
    after : Tried w ks i low b a r w''
    after = subst (λ (v : List ℕ). Tried v ks i low b a r w'') (x.off e) z

    pub added_second : r ≡ true → Grows w ks low a b s t (in_order ks i s t) s (insert t i) w''
    added_second f =
        record {
          kept = kept-turn (kept-laid b (after.on f));
          is = λ u h. rw (tried-joins p.shaped.some x h, e, tried-turned after h, f);
          held = λ u h. held-turn (held-add i p.shaped.some (turn-space p).both (held-turn h) (after.on f));
        }

    pub added_neither : r ≡ false → Grows w ks low a b s t (in_order ks i s t) s t w''
    added_neither f =
        subst (λ (v : List ℕ). Grows w ks low a b s t (in_order ks i s t) s t v) (sym (after.off f))
        (record {
          kept = kept_self w a b (cells ks);
          is = λ u h. rw (tried-joins p.shaped.some x h, e, tried-turned after h, f);
          held = λ u h. h;
        })

-- the two sets exchanged
abbrev turn : Grouping → Grouping
turn none = none
turn (sets s t) = sets t s

turn_try : (is : ℕ → Bool) (js : ℕ → ℕ → Bool) (s t : ℕ) (other : Grouping) → js s t ≡ js t s → turn (try_join is js s t other) ≡ try_join is js t s (turn other)
turn_try is js s t other e = go (js s t) ∙ ap (λ (b : Bool). cond b (sets t s) (turn other)) e
  where
    go : (b : Bool) → turn (cond b (sets s t) other) ≡ cond b (sets t s) (turn other)
    go true = refl
    go false = refl

-- tried in t, then in s
abbrev other_order : List ℕ → ℕ → ℕ → ℕ → (ℕ → ℕ → Bool) → Grouping
other_order ks i s t js = try_join (present ks) js s (insert t i) (try_join (present ks) js (insert s i) t (sets s t))

turn-order : (ks : List ℕ) (i s t : ℕ) (js : ℕ → ℕ → Bool) → ((x y : ℕ) → js x y ≡ js y x) → turn (in_order ks i t s js) ≡ other_order ks i s t js
turn-order ks i s t js e =
    turn_try (present ks) js (insert t i) s (try_join (present ks) js t (insert s i) (sets t s)) (e (insert t i) s)
    ∙ ap (try_join (present ks) js s (insert t i)) (turn_try (present ks) js t (insert s i) (sets t s) (e t (insert s i)))

turn_grows : {w ks : List ℕ} (i : ℕ) {low a b s t s' t' : ℕ} {w' : List ℕ} → Grows w ks low b a t s (in_order ks i t s) t' s' w' → Grows w ks low a b s t (other_order ks i s t) s' t' w'
turn_grows {w} {ks} i {low} {a} {b} {s} {t} g =
    record {
      kept = kept-turn g.kept;
      is = λ u h. ap turn (g.is u (held-turn h)) ∙ turn-order ks i s t (joins ks (part w low (cells ks)) u) (joins-turn ks (part w low (cells ks)) u);
      held = λ u h. held-turn (g.held u (held-turn h));
    }

-- what the sets become, said in another way
grows_as : {w ks : List ℕ} {low a b s t : ℕ} {to to' : (ℕ → ℕ → Bool) → Grouping} {s' t' : ℕ} {w' : List ℕ}
    → ((js : ℕ → ℕ → Bool) → to js ≡ to' js) → Grows w ks low a b s t to s' t' w' → Grows w ks low a b s t to' s' t' w'
grows_as e g = record { kept = g.kept; is = λ u h. g.is u h ∙ e _; held = g.held }

grows_none : (w ks : List ℕ) (low a b s t : ℕ) → Grows w ks low a b s t (λ js. sets s t) s t w
grows_none w ks low a b s t = record { kept = kept_self w a b (cells ks); is = λ u h. refl; held = λ u h. h }

-- condition i is there, and in neither set
pub record Open (ks : List ℕ) (i s t : ℕ) : Type 0 where
  pub there : present ks i ≡ true
  pub first : has s i ≡ false
  pub second : has t i ≡ false

pub open_from : {ks : List ℕ} {i s t : ℕ} → present ks i ≡ true → (has s i || has t i) ≡ false → Open ks i s t
open_from {ks} {i} {s} {t} e n = let p = or_parts (has s i) (has t i) n in record { there = e; first = p.0; second = p.1 }

module _ (w ks : List ℕ) (low a b s t i : ℕ) where
  abbrev Next : ℕ → ℕ → List ℕ → Type 0
  Next s' t' w' = Grows w ks low a b s t (λ js. add_condition (present ks) js i (sets s t)) s' t' w'

  module _ {s' t' : ℕ} {w' : List ℕ} (o : Open ks i s t) where
    pub second_smaller : leb (count s) (count t) ≡ false → Grows w ks low b a t s (in_order ks i t s) t' s' w' → Next s' t' w'
    second_smaller h r = grows_as (λ js. rw (o.there, o.first, o.second, h)) (turn_grows i r)

-- the conditions below i tried
abbrev pub Grown : List ℕ → List ℕ → ℕ → ℕ → ℕ → ℕ → ℕ → ℕ → ℕ → ℕ → List ℕ → Type 0
Grown w ks low a b s t i s' t' w' = Grows w ks low a b s t (λ js. grow (present ks) js (numbers_from 0 i) (sets s t)) s' t' w'

pub grown_none : (w ks : List ℕ) (low a b s t : ℕ) → Grown w ks low a b s t 0 s t w
grown_none = grows_none

pub grown_more : {w ks : List ℕ} {low a b s t : ℕ} (i : ℕ) {s' t' s'' t'' : ℕ} {w' w'' : List ℕ} → Space w ks low a b → Grown w ks low a b s t i s' t' w'
    → Grows w' ks low a b s' t' (λ js. add_condition (present ks) js i (sets s' t')) s'' t'' w'' → Grown w ks low a b s t (i + 1) s'' t'' w''
grown_more {w} {ks} {low} {a} {b} {s} {t} i {s'} {t'} {s''} {t''} {w'} {w''} p g n =
    record {
      kept = kept_then g.kept n.kept;
      is = λ u h.
          let js = joins ks (part w low (cells ks)) u in
          n.is u (g.held u h)
          ∙ ap (λ (l : List ℕ). add_condition (present ks) (joins ks l u) i (sets s' t')) (kept-part p.first p.second g.kept)
          ∙ ap (add_condition (present ks) js i) (g.is u h)
          ∙ ap (λ (j : ℕ). add_condition (present ks) js j (grow (present ks) js (numbers_from 0 i) (sets s t))) (sym (zero-add i))
          ∙ sym (grow-next (present ks) js 0 i (sets s t))
          ∙ ap (λ (j : ℕ). grow (present ks) js (numbers_from 0 j) (sets s t)) (sym (add-one i));
      held = λ u h. n.held u (g.held u h);
    }
