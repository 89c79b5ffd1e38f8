-- Rows of ceilings: each rules out some wrong reading of request 7.
use Rattle.std.specs.Prelude.{ℕ, ◌+◌, ◌*◌, ◌/◌, ◌≡◌, Bool, true, false, List, [], ◌∷◌, length, replicate, set}
use Rattle.rules.specs.declared.Gate.TheVariants.{Min, Max}
use Rattle.rules.specs.Bytes.{tabulate}
use Rattle.rules.specs.Shape.{places}
use Rattle.rules.specs.Network.{constant, literal, gate, network_bytes, ceiling_at, ceiling_sound, network_sound, record_grade_at}
use Rattle.rules.specs.Small.{card_bytes, network, F, net_e}

-- cardinalities 2 and 3, with three grades
abbrev pub two_three : List ℕ
two_three = places (card_bytes (2 ∷ 3 ∷ []))

abbrev pub sound : List ℕ → Bool
sound = network_sound two_three 3

-- byte 2 of every record
abbrev pub ceiling_bytes : List ℕ → List ℕ
ceiling_bytes net = tabulate (length net / 16) (ceiling_at net)

-- a network with another byte 2 of record k
abbrev pub with_ceiling : List ℕ → ℕ → ℕ → List ℕ
with_ceiling net k q = set net (16 * k + 2) q

-- whether that record then has its ceiling
abbrev pub fitting : List ℕ → ℕ → ℕ → Bool
fitting net k q = ceiling_sound two_three (with_ceiling net k q) k

-- record 4 is 0 at every cell: where one of its inputs is 2 the other is 0
abbrev pub mixed : List ℕ
mixed =
    network_bytes
    (constant 1
    ∷ literal 0 (2 ∷ 0 ∷ [])
    ∷ literal 1 (0 ∷ 2 ∷ 1 ∷ [])
    ∷ literal 0 (0 ∷ 2 ∷ [])
    ∷ gate Min 1 3
    ∷ gate Min 4 0
    ∷ gate Max 5 0
    ∷ gate Max 2 6
    ∷ [])

abbrev pub Ceilings : Type 0
Ceilings =
    -- a gate's is by its inputs' bytes 2, and not the greatest grade that it has at a cell
    (ceiling_bytes mixed ≡ 1 ∷ 2 ∷ 2 ∷ 2 ∷ 2 ∷ 1 ∷ 1 ∷ 2 ∷ [])
    × (sound mixed ≡ true)
    -- any other byte 2 is a fault of its own record, below the ceiling and above it: a constant's, a literal's, a min's and a max's
    × (fitting mixed 0 0 ≡ false)
    × (fitting mixed 0 2 ≡ false)
    × (fitting mixed 2 1 ≡ false)
    × (fitting mixed 2 3 ≡ false)
    × (fitting mixed 5 0 ≡ false)
    × (fitting mixed 5 2 ≡ false)
    × (fitting mixed 7 1 ≡ false)
    × (fitting mixed 7 255 ≡ false)
    -- and so of the network, where no record behind it could tell
    × (sound (with_ceiling mixed 7 1) ≡ false)
    × (sound (with_ceiling mixed 7 255) ≡ false)
    -- a gate is judged by the bytes 2 that are there: record 6 fits the wrong one of record 0
    × (fitting (with_ceiling mixed 0 2) 6 2 ≡ true)
    × (fitting (with_ceiling mixed 0 2) 6 1 ≡ false)
    -- a literal's is over the values that exist: the grade for a third value of condition 0 counts for nothing
    × (ceiling_sound two_three (1 ∷ 0 ∷ 1 ∷ 0 ∷ 0 ∷ 0 ∷ 0 ∷ 0 ∷ 0 ∷ 1 ∷ 2 ∷ replicate 5 0) 0 ≡ true)
    -- a network from before has 0 there
    × (sound (0 ∷ 1 ∷ replicate 14 0) ≡ false)
    × (sound (0 ∷ 0 ∷ replicate 14 0) ≡ true)
    × (sound (0 ∷ 1 ∷ 1 ∷ replicate 13 0) ≡ true)
    -- and byte 3 is zero as before
    × (sound (0 ∷ 1 ∷ 1 ∷ 1 ∷ replicate 12 0) ≡ false)
    -- networks of tables: 01's F, and E
    × (network_bytes (network (2 ∷ 3 ∷ []) 3 F.lower F.upper) ≡ 1 ∷ 1 ∷ 2 ∷ 0 ∷ 0 ∷ 0 ∷ 0 ∷ 0 ∷ 1 ∷ 0 ∷ 2 ∷ 0 ∷ 0 ∷ 0 ∷ 0 ∷ 0 ∷ [])
    × (ceiling_bytes net_e ≡ replicate 7 1)
    -- the grade of each record at a cell
    × (tabulate 8 (record_grade_at two_three mixed 1) ≡ 1 ∷ 0 ∷ 0 ∷ 2 ∷ 0 ∷ 0 ∷ 1 ∷ 1 ∷ [])
    × (tabulate 8 (record_grade_at two_three mixed 3) ≡ 1 ∷ 0 ∷ 2 ∷ 2 ∷ 0 ∷ 0 ∷ 1 ∷ 2 ∷ [])
