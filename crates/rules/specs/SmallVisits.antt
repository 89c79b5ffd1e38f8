-- Rows of lists of visits: each rules out some wrong reading of request 3.
use Rattle.std.specs.Prelude.{ℕ, ◌≡◌, List, [], ◌∷◌, replicate}
use Rattle.rules.specs.declared.Refusal.TheVariants.{CellNumber}
use Rattle.rules.specs.Verdict.{Verdict, accepted, refused, verdict_number}
use Rattle.rules.specs.NetworkCalls.{evaluate_call}
use Rattle.rules.specs.Visits.{byte_verdict, evaluate_each_call}
use Rattle.rules.specs.Small.{card_bytes, two, net_e}

-- over E's shape with m grades, in buffers of these lengths
abbrev pub visit_e : ℕ → List ℕ → ℕ → List ℕ → ℕ → Verdict (List ℕ)
visit_e m net work visits grades = evaluate_each_call 2 (card_bytes two) m net work visits grades

-- the refusal; 0 if none
abbrev pub visit_number : ℕ → List ℕ → ℕ → List ℕ → ℕ → ℕ
visit_number m net work visits grades = verdict_number (visit_e m net work visits grades)

-- a record whose kind there is not
abbrev pub faulty : List ℕ
faulty = replicate 16 9

abbrev pub Visits : Type 0
Visits =
    -- in the list's order, a cell as often as it stands there
    (visit_e 2 net_e 7 (3 ∷ 1 ∷ 1 ∷ 0 ∷ 2 ∷ []) 5 ≡ accepted (0 ∷ 1 ∷ 1 ∷ 0 ∷ 1 ∷ []))
    -- 255 for the first number that has no cell and for the last there can be, and the rest go on
    × (visit_e 2 net_e 7 (4 ∷ 1 ∷ 65535 ∷ 2 ∷ []) 4 ≡ accepted (255 ∷ 1 ∷ 255 ∷ 1 ∷ []))
    -- which is refusal 12 of a single evaluation, and any other byte its grade
    × (byte_verdict 255 ≡ refused CellNumber)
    × (evaluate_call 2 (card_bytes two) 2 net_e 7 65535 ≡ byte_verdict 255)
    × (evaluate_call 2 (card_bytes two) 2 net_e 7 2 ≡ byte_verdict 1)
    × (byte_verdict 254 ≡ accepted 254)
    -- an empty list
    × (visit_e 2 net_e 7 [] 0 ≡ accepted [])
    -- a byte for each number and no more, however long the buffer; one byte short is refusal 10, and so is work that evaluating refuses
    × (visit_e 2 net_e 7 (1 ∷ 4 ∷ []) 9 ≡ accepted (1 ∷ 255 ∷ []))
    × (visit_number 2 net_e 7 (1 ∷ 4 ∷ []) 1 ≡ 10)
    × (visit_number 2 net_e 6 (1 ∷ 4 ∷ []) 2 ≡ 10)
    -- faults stop an empty list too, in the order 4, 10, 11
    × (visit_number 2 [] 0 [] 0 ≡ 11)
    × (visit_number 2 faulty 1 (4 ∷ []) 1 ≡ 11)
    × (visit_number 2 faulty 1 (4 ∷ []) 0 ≡ 10)
    × (visit_number 2 faulty 0 [] 0 ≡ 10)
    × (visit_number 1 faulty 0 [] 0 ≡ 4)
