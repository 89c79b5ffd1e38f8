-- What the four join calls promise: `grades_join_max_first` and the others, each with its gate.
use Rattle.std.specs.Prelude.{ℕ, ◌+◌, ◌≡◌, List, ◌↔◌, length}
use Rattle.rules.specs.declared.Gate.{Gate}
use Rattle.rules.specs.declared.Refusal.TheVariants.{NoJoin}
use Rattle.rules.specs.Bytes.{at}
use Rattle.rules.specs.Refusal.{refusal_number}
use Rattle.rules.specs.Cell.{Blind, cells}
use Rattle.rules.specs.Verdict.{Verdict}
use Rattle.rules.specs.Limits.{Limits, limits_of}
use Rattle.rules.specs.Demands.{Grades, Inside, Pair}
use Rattle.shape.specs.declared.Shape.{Shape}
use Rattle.shape.specs.Shapes.{places_of}
use Rattle.join.specs.Calls.{lower_after, upper_after, Offered, first_lengths, first_verdict, second_lengths, second_verdict}
use Rattle.panel_answers.specs.Answers.{lent_shape, lent, call_number}

module _ (gate : Gate) (bytes lower upper : List ℕ) (s t : ℕ) where
  abbrev pub ks : List ℕ
  ks = places_of (lent_shape bytes)

  abbrev pub m : ℕ
  m = (lent_shape bytes).m

  -- two functions that the gate joins within the limits lent
  abbrev pub Joins : (ℕ → ℕ) → (ℕ → ℕ) → Type 0
  Joins g h = Pair gate ks m s t (limits_of lower upper) g h

  -- both calls, by their rows and the lengths of the buffers lent: the answer and every byte of the two output buffers; and demand 2,
  -- refusal 8 exactly when there are no two functions
  pub record Joined (rows : Shape → Verdict Limits) (lengths to_lower to_upper : List ℕ) (r : ℕ) (to_lower' to_upper' : List ℕ) : Type 0 where
    pub answer : r ≡ call_number (lent bytes rows) (λ l. 0)
    pub lower-after : to_lower' ≡ lower_after (lent bytes rows) (cells ks) to_lower
    pub upper-after : to_upper' ≡ upper_after (lent bytes rows) (cells ks) to_upper
    pub no_join : length bytes ≡ 10 → Offered (lent_shape bytes) lengths (limits_of lower upper) s t
        → (r ≡ 65536 + refusal_number NoJoin) ↔ ((g h : ℕ → ℕ) → Joins g h → ⊥)

  -- the first block; the limits written hold exactly the functions that can be the first of two
  pub record JoinsFirst (to_lower to_upper : List ℕ) (r : ℕ) (to_lower' to_upper' : List ℕ) : Type 0 where
    pub joined :
        Joined (λ shape. first_verdict shape lower upper gate s t to_lower to_upper) (first_lengths (lent_shape bytes) lower upper gate s t to_lower to_upper)
        to_lower to_upper r to_lower' to_upper'
    pub exact : r ≡ 0 → (g : ℕ → ℕ) → Grades ks m g → Blind ks t g → Inside ks (limits_of to_lower' to_upper') g ↔ ((h : ℕ → ℕ) × Joins g h)

  -- the second, the first being g; the limits written hold exactly the functions that complete it
  pub record JoinsSecond (g to_lower to_upper : List ℕ) (r : ℕ) (to_lower' to_upper' : List ℕ) : Type 0 where
    pub joined :
        Joined (λ shape. second_verdict shape lower upper gate s t g to_lower to_upper) (second_lengths (lent_shape bytes) lower upper gate s t g to_lower to_upper)
        to_lower to_upper r to_lower' to_upper'
    pub exact : r ≡ 0 → (h : ℕ → ℕ) → Grades ks m h → Blind ks s h → Inside ks (limits_of to_lower' to_upper') h ↔ Joins (at g) h
