-- What is asked of a record's bytes, by its kind.
use Rattle.std.specs.Prelude.{ℕ, ◌+◌, Bool, ◌&&◌, List, eqb, ltb}
use Rattle.rules.specs.Bytes.{at, all, tabulate, word}
use Rattle.rules.specs.Cell.{card, present}
use Rattle.rules.specs.Network.{literal_byte_sound}

-- a literal's bytes, with so many values
abbrev pub grades_sound : ℕ → ℕ → List ℕ → Bool
grades_sound values m r = all 8 (λ v. literal_byte_sound values m v (at r (8 + v)))

abbrev pub literal_sound : List ℕ → ℕ → List ℕ → Bool
literal_sound ks m r = present ks (at r 1) && grades_sound (card ks (at r 1)) m r

-- its grades for the values that exist
abbrev pub literal_grades : List ℕ → List ℕ → List ℕ
literal_grades ks r = tabulate (card ks (at r 1)) (λ v. at r (8 + v))

-- the records of a gate stand before it
abbrev pub gate_sound : ℕ → List ℕ → Bool
gate_sound k r = ltb (word r 4) k && ltb (word r 6) k

-- byte 2 is this ceiling
abbrev pub ceiling_is : ℕ → List ℕ → Bool
ceiling_is top r = eqb (at r 2) top
