-- The promises of the two join calls.
use Rattle.std.specs.Prelude.{ℕ, ◌≡◌, List, [], ◌∷◌, ◌++◌, ◌↔◌, T, Result, Ok, Err, length, drop}
use Rattle.rules.specs.declared.Gate.{Gate}
use Rattle.rules.specs.declared.Refusal.{Refusal}
use Rattle.rules.specs.declared.Refusal.TheVariants.{NoJoin}
use Rattle.rules.specs.Bytes.{at}
use Rattle.rules.specs.Cell.{Blind, cells}
use Rattle.rules.specs.Verdict.{Verdict, accepted, refused, roomy, answer_of, outcome_of, outcome_means}
use Rattle.rules.specs.Limits.{Limits, limits_of, limits_sound}
use Rattle.rules.specs.Join.{sets_sound, join_first, join_second}
use Rattle.rules.specs.Demands.{Grades, Inside, Pair}
use Rattle.shape.specs.declared.Shape.{Shape}
use Rattle.shape.specs.Shapes.{cards_of, places_of, is_sound}

-- the two output buffers after a call: the limits of all n cells and what lay behind them, or all as it was
abbrev pub lower_after : Verdict Limits → ℕ → List ℕ → List ℕ
lower_after (accepted l) n to = l.lower ++ drop n to
lower_after (refused q) n to = to

abbrev pub upper_after : Verdict Limits → ℕ → List ℕ → List ℕ
upper_after (accepted l) n to = l.upper ++ drop n to
upper_after (refused q) n to = to

-- a call that rows 4, 10, 5 and 7 let pass
pub record Offered (shape : Shape) (lengths : List ℕ) (l : Limits) (s t : ℕ) : Type 0 where
  pub sound : T (is_sound shape)
  pub room : T (roomy (cells (places_of shape)) lengths)
  pub limits : T (limits_sound (places_of shape) shape.m l)
  pub sets : T (sets_sound (places_of shape) s t)

module _ (shape : Shape) (lower upper : List ℕ) (gate : Gate) (s t : ℕ) where
  -- two functions that the gate joins within the limits lent
  abbrev pub Joins : (ℕ → ℕ) → (ℕ → ℕ) → Type 0
  Joins g h = Pair gate (places_of shape) shape.m s t (limits_of lower upper) g h

  -- limits that hold exactly the functions that can be the first of two
  abbrev pub HoldsFirst : Limits → Type 0
  HoldsFirst l = (g : ℕ → ℕ) → Grades (places_of shape) shape.m g → Blind (places_of shape) t g
      → Inside (places_of shape) l g ↔ ((h : ℕ → ℕ) × Joins g h)

  -- limits that hold exactly the functions that complete g
  abbrev pub HoldsSecond : List ℕ → Limits → Type 0
  HoldsSecond g l = (h : ℕ → ℕ) → Grades (places_of shape) shape.m h → Blind (places_of shape) s h
      → Inside (places_of shape) l h ↔ Joins (at g) h

  -- both calls, by the verdict, the lengths of the buffers and what the limits written hold: the answer and every byte
  -- of the two output buffers, for every shape and all buffers
  pub record JoinCall (verdict : Verdict Limits) (lengths : List ℕ) (Holds : Limits → Type 0) (to_lower to_upper : List ℕ)
      (r : Result (Unit {0}) Refusal) (to_lower' to_upper' : List ℕ) : Type 0 where
    pub answer : r ≡ outcome_of verdict
    pub means : outcome_means r ≡ answer_of (λ l. []) verdict
    pub lower-after : to_lower' ≡ lower_after verdict (cells (places_of shape)) to_lower
    pub upper-after : to_upper' ≡ upper_after verdict (cells (places_of shape)) to_upper
    -- demand 2: refusal 8 exactly when there are no two functions
    pub no_join : Offered shape lengths (limits_of lower upper) s t → (r ≡ Err NoJoin) ↔ ((g h : ℕ → ℕ) → Joins g h → ⊥)
    pub exact : r ≡ Ok tt → Holds (limits_of to_lower' to_upper')

  -- the first call
  module _ (to_lower to_upper : List ℕ) where
    abbrev pub first_lengths : List ℕ
    first_lengths = length lower ∷ length upper ∷ length to_lower ∷ length to_upper ∷ []

    abbrev pub first_verdict : Verdict Limits
    first_verdict = join_first shape.n (cards_of shape) shape.m first_lengths (limits_of lower upper) gate s t

    abbrev pub JoinFirst : Result (Unit {0}) Refusal → List ℕ → List ℕ → Type 0
    JoinFirst r to_lower' to_upper' = JoinCall first_verdict first_lengths HoldsFirst to_lower to_upper r to_lower' to_upper'

  -- the second call, with the first block g
  module _ (g to_lower to_upper : List ℕ) where
    abbrev pub second_lengths : List ℕ
    second_lengths = length lower ∷ length upper ∷ length g ∷ length to_lower ∷ length to_upper ∷ []

    abbrev pub second_verdict : Verdict Limits
    second_verdict = join_second shape.n (cards_of shape) shape.m second_lengths (limits_of lower upper) gate s t g

    abbrev pub JoinSecond : Result (Unit {0}) Refusal → List ℕ → List ℕ → Type 0
    JoinSecond r to_lower' to_upper' = JoinCall second_verdict second_lengths (HoldsSecond g) to_lower to_upper r to_lower' to_upper'
