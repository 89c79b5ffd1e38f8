-- Rows of weak joins: each rules out some wrong reading of request 5.
use Rattle.std.specs.Prelude.{◌≡◌, [], ◌∷◌, length}
use Rattle.rules.specs.declared.Gate.TheVariants.{Min, Max}
use Rattle.rules.specs.Network.{constant, literal, gate}
use Rattle.rules.specs.Forecast.{forecast_of}
use Rattle.rules.specs.Small.{network, exact_network, two, three}
use Rattle.rules.specs.SmallForecasts.{figures}

abbrev pub WeakJoins : Type 0
WeakJoins =
    -- by max at condition 0, before min and before condition 1, and by a cell with lower = u_b alone; kept, for the split has 7 records
    (exact_network two 3 (0 ∷ 1 ∷ 1 ∷ 2 ∷ [])
    ≡ literal 0 (0 ∷ 2 ∷ []) ∷ literal 1 (1 ∷ 2 ∷ []) ∷ gate Min 0 1 ∷ literal 1 (0 ∷ 1 ∷ []) ∷ gate Max 2 3 ∷ [])
    -- built and not kept: it has 9 records
    × (exact_network two 3 (0 ∷ 1 ∷ 1 ∷ 0 ∷ [])
    ≡ literal 0 (2 ∷ 0 ∷ []) ∷ literal 1 (0 ∷ 1 ∷ []) ∷ gate Min 0 1 ∷ literal 0 (0 ∷ 2 ∷ []) ∷ literal 1 (1 ∷ 0 ∷ []) ∷ gate Min 3 4 ∷ gate Max 2 5 ∷ [])
    -- gates within a condition, and no other than the first that counts is built: by min at condition 0, with 9 records. By max at
    -- condition 1 there would be 5
    × (network two 3 (0 ∷ 1 ∷ 2 ∷ 0 ∷ []) (0 ∷ 1 ∷ 2 ∷ 1 ∷ [])
    ≡ literal 0 (2 ∷ 0 ∷ []) ∷ literal 1 (0 ∷ 2 ∷ []) ∷ gate Min 0 1 ∷ literal 0 (0 ∷ 2 ∷ []) ∷ constant 1 ∷ gate Min 3 4 ∷ gate Max 2 5 ∷ [])
    -- lower > 0: of the cells with lower ≤ u_b at condition 0 each has lower 0, and by min there is none; so it is max at condition 1
    × (network two 3 (0 ∷ 1 ∷ 2 ∷ 0 ∷ []) (0 ∷ 2 ∷ 2 ∷ 1 ∷ [])
    ≡ literal 0 (2 ∷ 0 ∷ []) ∷ literal 1 (0 ∷ 2 ∷ []) ∷ gate Min 0 1 ∷ literal 0 (0 ∷ 1 ∷ []) ∷ gate Max 2 3 ∷ [])
    -- the first block takes none: with one in it the weak join, by min at condition 0, would have 7 records and not 13
    × (length (exact_network (3 ∷ 2 ∷ []) 3 (0 ∷ 0 ∷ 1 ∷ 0 ∷ 1 ∷ 1 ∷ [])) ≡ 11)
    -- not kept with as many records as the split
    × (exact_network three 2 (0 ∷ 0 ∷ 0 ∷ 1 ∷ 1 ∷ 1 ∷ 1 ∷ 0 ∷ [])
    ≡ literal 0 (1 ∷ 0 ∷ [])
    ∷ literal 2 (0 ∷ 1 ∷ [])
    ∷ gate Min 0 1
    ∷ literal 0 (0 ∷ 1 ∷ [])
    ∷ literal 1 (1 ∷ 0 ∷ [])
    ∷ literal 2 (0 ∷ 1 ∷ [])
    ∷ gate Min 4 5
    ∷ literal 1 (0 ∷ 1 ∷ [])
    ∷ literal 2 (1 ∷ 0 ∷ [])
    ∷ gate Min 7 8
    ∷ gate Max 6 9
    ∷ gate Min 3 10
    ∷ gate Max 2 11
    ∷ [])
    -- the second block may take one
    × (exact_network three 3 (0 ∷ 1 ∷ 1 ∷ 2 ∷ 1 ∷ 2 ∷ 2 ∷ 2 ∷ [])
    ≡ literal 0 (0 ∷ 2 ∷ [])
    ∷ literal 1 (0 ∷ 2 ∷ [])
    ∷ literal 2 (1 ∷ 2 ∷ [])
    ∷ gate Max 1 2
    ∷ gate Min 0 3
    ∷ literal 1 (0 ∷ 2 ∷ [])
    ∷ literal 2 (1 ∷ 2 ∷ [])
    ∷ gate Min 5 6
    ∷ literal 2 (0 ∷ 1 ∷ [])
    ∷ gate Max 7 8
    ∷ gate Max 4 9
    ∷ [])
    -- and so may a stage below the first block: it has lost a condition
    × (exact_network three 3 (0 ∷ 0 ∷ 0 ∷ 2 ∷ 0 ∷ 1 ∷ 1 ∷ 1 ∷ [])
    ≡ literal 0 (0 ∷ 2 ∷ [])
    ∷ literal 1 (0 ∷ 2 ∷ [])
    ∷ literal 2 (2 ∷ 0 ∷ [])
    ∷ gate Min 1 2
    ∷ literal 2 (0 ∷ 1 ∷ [])
    ∷ gate Max 3 4
    ∷ gate Min 0 5
    ∷ literal 1 (0 ∷ 1 ∷ [])
    ∷ literal 2 (0 ∷ 1 ∷ [])
    ∷ gate Min 7 8
    ∷ gate Max 6 9
    ∷ [])
    -- a forecast tells of the network with it
    × (forecast_of (exact_network two 3 (0 ∷ 1 ∷ 1 ∷ 2 ∷ [])) ≡ figures 5 2)
