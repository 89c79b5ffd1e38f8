-- Rows of settings other than the usual: each rules out some wrong reading of request 8.
use Rattle.std.specs.Prelude.{ℕ, ◌≡◌, Bool, true, false, List, [], ◌∷◌}
use Rattle.rules.specs.declared.Gate.{Gate}
use Rattle.rules.specs.declared.Gate.TheVariants.{Min, Max}
use Rattle.rules.specs.declared.SplitOn.{SplitOn}
use Rattle.rules.specs.declared.SplitOn.TheVariants.{Lowest, MostValues}
use Rattle.rules.specs.declared.Settings.{Settings}
use Rattle.rules.specs.Settings.{usual, settings_of}
use Rattle.rules.specs.Verdict.{accepted, verdict_number}
use Rattle.rules.specs.Network.{Record, constant, literal, gate}
use Rattle.rules.specs.Stage.{none, sets, joining, choose}
use Rattle.rules.specs.CompileCall.{compile_call}
use Rattle.rules.specs.Forecast.{forecast_call}
use Rattle.rules.specs.Small.{card_bytes, limits, network_set, two, three, E}
use Rattle.rules.specs.SmallForecasts.{figures}

abbrev pub settings : Gate → SplitOn → Bool → Settings
settings tie splits weak = record { tie = tie; splits = splits; weak = weak }

abbrev pub exact_set : Settings → List ℕ → ℕ → List ℕ → List Record
exact_set how cards m t = network_set how cards m t t

-- the refusal of compiling E under settings in buffers of these lengths, under these limits; 0 if none
abbrev pub compile_under : Settings → List ℕ → ℕ → ℕ → ℕ
compile_under how l work net = verdict_number (compile_call how 2 (card_bytes two) 2 4 4 work net (limits l E))

abbrev pub SettingsTaken : Type 0
SettingsTaken =
    -- min wins a full tie
    (network_set (settings Min Lowest true) two 3 (0 ∷ 0 ∷ 1 ∷ 2 ∷ []) (0 ∷ 2 ∷ 1 ∷ 2 ∷ [])
    ≡ literal 0 (1 ∷ 2 ∷ []) ∷ literal 1 (0 ∷ 2 ∷ []) ∷ gate Min 0 1 ∷ [])
    -- in the first stage, of three conditions
    × (exact_set (settings Min Lowest true) three 2 (0 ∷ 1 ∷ 1 ∷ 1 ∷ 0 ∷ 1 ∷ 0 ∷ 0 ∷ [])
    ≡ literal 0 (0 ∷ 1 ∷ []) ∷ literal 1 (0 ∷ 1 ∷ []) ∷ gate Max 0 1 ∷ literal 1 (1 ∷ 0 ∷ []) ∷ literal 2 (1 ∷ 0 ∷ []) ∷ gate Max 3 4 ∷ gate Min 2 5 ∷ [])
    -- in a block, whose stage is not the first
    × (exact_set (settings Min Lowest true) (3 ∷ 2 ∷ 2 ∷ []) 2 (0 ∷ 0 ∷ 0 ∷ 0 ∷ 0 ∷ 1 ∷ 1 ∷ 0 ∷ 1 ∷ 1 ∷ 1 ∷ 1 ∷ [])
    ≡ literal 0 (1 ∷ 0 ∷ 0 ∷ []) ∷ literal 2 (0 ∷ 1 ∷ []) ∷ gate Min 0 1 ∷ literal 0 (0 ∷ 0 ∷ 1 ∷ []) ∷ gate Max 2 3 ∷ literal 1 (0 ∷ 1 ∷ []) ∷ literal 2 (0 ∷ 1 ∷ []) ∷ gate Max 5 6 ∷ gate Min 4 7 ∷ literal 1 (0 ∷ 1 ∷ []) ∷ literal 2 (0 ∷ 1 ∷ []) ∷ gate Min 9 10 ∷ gate Max 8 11 ∷ [])
    -- below a split
    × (network_set (settings Min Lowest true) (2 ∷ 2 ∷ 3 ∷ []) 3 (2 ∷ 0 ∷ 0 ∷ 2 ∷ 1 ∷ 1 ∷ 0 ∷ 0 ∷ 1 ∷ 1 ∷ 0 ∷ 2 ∷ []) (2 ∷ 0 ∷ 2 ∷ 2 ∷ 1 ∷ 1 ∷ 0 ∷ 0 ∷ 1 ∷ 1 ∷ 0 ∷ 2 ∷ [])
    ≡ literal 0 (2 ∷ 0 ∷ []) ∷ literal 1 (2 ∷ 0 ∷ []) ∷ literal 2 (2 ∷ 1 ∷ 1 ∷ []) ∷ gate Min 1 2 ∷ gate Min 0 3 ∷ literal 0 (0 ∷ 2 ∷ []) ∷ literal 1 (2 ∷ 0 ∷ []) ∷ literal 2 (0 ∷ 1 ∷ 1 ∷ []) ∷ gate Min 6 7 ∷ literal 1 (0 ∷ 2 ∷ []) ∷ literal 2 (2 ∷ 0 ∷ 2 ∷ []) ∷ gate Min 9 10 ∷ gate Max 8 11 ∷ gate Min 5 12 ∷ gate Max 4 13 ∷ [])
    -- not where max has more conditions
    × (exact_set (settings Min Lowest true) three 2 (0 ∷ 1 ∷ 0 ∷ 0 ∷ 1 ∷ 1 ∷ 1 ∷ 1 ∷ [])
    ≡ literal 0 (0 ∷ 1 ∷ []) ∷ literal 1 (1 ∷ 0 ∷ []) ∷ gate Min 0 1 ∷ literal 2 (0 ∷ 1 ∷ []) ∷ gate Max 2 3 ∷ [])
    -- a split on the condition with most values
    × (exact_set (settings Max MostValues true) (2 ∷ 3 ∷ []) 2 (0 ∷ 0 ∷ 0 ∷ 1 ∷ 1 ∷ 0 ∷ [])
    ≡ literal 1 (1 ∷ 0 ∷ 0 ∷ []) ∷ constant 0 ∷ gate Min 0 1 ∷ literal 1 (0 ∷ 1 ∷ 0 ∷ []) ∷ literal 0 (0 ∷ 1 ∷ []) ∷ gate Min 3 4 ∷ gate Max 2 5 ∷ literal 1 (0 ∷ 0 ∷ 1 ∷ []) ∷ literal 0 (1 ∷ 0 ∷ []) ∷ gate Min 7 8 ∷ gate Max 6 9 ∷ [])
    -- which may be the lowest
    × (exact_set (settings Max MostValues true) (3 ∷ 2 ∷ []) 2 (1 ∷ 0 ∷ 0 ∷ 0 ∷ 1 ∷ 1 ∷ [])
    ≡ literal 0 (1 ∷ 0 ∷ 0 ∷ []) ∷ literal 1 (1 ∷ 0 ∷ []) ∷ gate Min 0 1 ∷ literal 0 (0 ∷ 1 ∷ 0 ∷ []) ∷ literal 1 (0 ∷ 1 ∷ []) ∷ gate Min 3 4 ∷ gate Max 2 5 ∷ literal 0 (0 ∷ 0 ∷ 1 ∷ []) ∷ literal 1 (0 ∷ 1 ∷ []) ∷ gate Min 7 8 ∷ gate Max 6 9 ∷ [])
    -- the lowest of those with most values
    × (exact_set (settings Max MostValues true) two 2 (0 ∷ 1 ∷ 1 ∷ 0 ∷ [])
    ≡ literal 0 (1 ∷ 0 ∷ []) ∷ literal 1 (0 ∷ 1 ∷ []) ∷ gate Min 0 1 ∷ literal 0 (0 ∷ 1 ∷ []) ∷ literal 1 (1 ∷ 0 ∷ []) ∷ gate Min 3 4 ∷ gate Max 2 5 ∷ [])
    -- of those that are left: condition 0, which has three, drops
    × (exact_set (settings Max MostValues true) (3 ∷ 2 ∷ 2 ∷ []) 2 (0 ∷ 0 ∷ 0 ∷ 1 ∷ 1 ∷ 1 ∷ 1 ∷ 1 ∷ 1 ∷ 0 ∷ 0 ∷ 0 ∷ [])
    ≡ literal 1 (1 ∷ 0 ∷ []) ∷ literal 2 (0 ∷ 1 ∷ []) ∷ gate Min 0 1 ∷ literal 1 (0 ∷ 1 ∷ []) ∷ literal 2 (1 ∷ 0 ∷ []) ∷ gate Min 3 4 ∷ gate Max 2 5 ∷ [])
    -- in a block, of those that it has
    × (exact_set (settings Max MostValues true) (2 ∷ 2 ∷ 3 ∷ []) 2 (1 ∷ 0 ∷ 0 ∷ 0 ∷ 0 ∷ 1 ∷ 0 ∷ 0 ∷ 1 ∷ 1 ∷ 0 ∷ 0 ∷ [])
    ≡ literal 2 (1 ∷ 0 ∷ 0 ∷ []) ∷ literal 0 (1 ∷ 0 ∷ []) ∷ gate Min 0 1 ∷ literal 2 (0 ∷ 1 ∷ 0 ∷ []) ∷ literal 0 (0 ∷ 1 ∷ []) ∷ gate Min 3 4 ∷ gate Max 2 5 ∷ literal 2 (0 ∷ 0 ∷ 1 ∷ []) ∷ constant 1 ∷ gate Min 7 8 ∷ gate Max 6 9 ∷ literal 1 (1 ∷ 0 ∷ []) ∷ gate Min 10 11 ∷ [])
    -- in a block that lacks the condition with most values of the whole table
    × (network_set (settings Max MostValues true) (2 ∷ 3 ∷ 3 ∷ []) 2 (1 ∷ 0 ∷ 0 ∷ 0 ∷ 1 ∷ 0 ∷ 0 ∷ 1 ∷ 0 ∷ 0 ∷ 0 ∷ 1 ∷ 1 ∷ 1 ∷ 0 ∷ 0 ∷ 0 ∷ 1 ∷ []) (1 ∷ 0 ∷ 1 ∷ 0 ∷ 1 ∷ 1 ∷ 0 ∷ 1 ∷ 0 ∷ 0 ∷ 0 ∷ 1 ∷ 1 ∷ 1 ∷ 0 ∷ 0 ∷ 0 ∷ 1 ∷ [])
    ≡ literal 2 (1 ∷ 0 ∷ 0 ∷ []) ∷ literal 0 (1 ∷ 0 ∷ []) ∷ gate Min 0 1 ∷ literal 2 (0 ∷ 1 ∷ 0 ∷ []) ∷ literal 0 (0 ∷ 1 ∷ []) ∷ gate Min 3 4 ∷ gate Max 2 5 ∷ literal 2 (0 ∷ 0 ∷ 1 ∷ []) ∷ literal 0 (0 ∷ 1 ∷ []) ∷ gate Min 7 8 ∷ gate Max 6 9 ∷ literal 1 (1 ∷ 0 ∷ 1 ∷ []) ∷ gate Min 10 11 ∷ literal 1 (1 ∷ 0 ∷ 0 ∷ []) ∷ literal 2 (0 ∷ 0 ∷ 1 ∷ []) ∷ gate Min 13 14 ∷ gate Max 12 15 ∷ [])
    -- weak joins are not tried, in the first stage
    × (exact_set (settings Max Lowest false) two 3 (0 ∷ 1 ∷ 1 ∷ 2 ∷ [])
    ≡ literal 0 (2 ∷ 0 ∷ []) ∷ literal 1 (0 ∷ 1 ∷ []) ∷ gate Min 0 1 ∷ literal 0 (0 ∷ 2 ∷ []) ∷ literal 1 (1 ∷ 2 ∷ []) ∷ gate Min 3 4 ∷ gate Max 2 5 ∷ [])
    -- in a block
    × (exact_set (settings Max Lowest false) three 3 (1 ∷ 1 ∷ 2 ∷ 2 ∷ 2 ∷ 0 ∷ 2 ∷ 2 ∷ [])
    ≡ literal 0 (2 ∷ 0 ∷ []) ∷ literal 2 (1 ∷ 2 ∷ []) ∷ gate Min 0 1 ∷ literal 0 (0 ∷ 2 ∷ []) ∷ literal 2 (1 ∷ 0 ∷ []) ∷ gate Min 3 4 ∷ gate Max 2 5 ∷ literal 1 (0 ∷ 2 ∷ []) ∷ gate Max 6 7 ∷ [])
    -- below a split
    × (network_set (settings Max Lowest false) three 3 (0 ∷ 2 ∷ 1 ∷ 0 ∷ 1 ∷ 2 ∷ 2 ∷ 0 ∷ []) (0 ∷ 2 ∷ 1 ∷ 2 ∷ 1 ∷ 2 ∷ 2 ∷ 0 ∷ [])
    ≡ literal 0 (2 ∷ 0 ∷ []) ∷ literal 1 (2 ∷ 0 ∷ []) ∷ literal 2 (0 ∷ 1 ∷ []) ∷ gate Min 1 2 ∷ literal 1 (0 ∷ 2 ∷ []) ∷ literal 2 (1 ∷ 2 ∷ []) ∷ gate Min 4 5 ∷ gate Max 3 6 ∷ gate Min 0 7 ∷ literal 0 (0 ∷ 2 ∷ []) ∷ literal 1 (2 ∷ 0 ∷ []) ∷ gate Min 9 10 ∷ gate Max 8 11 ∷ [])
    -- two settings together, of a table that each of them alone, and none, gives another network
    × (network_set (settings Min MostValues true) (2 ∷ 2 ∷ 3 ∷ []) 2 (0 ∷ 1 ∷ 0 ∷ 0 ∷ 0 ∷ 0 ∷ 1 ∷ 1 ∷ 0 ∷ 1 ∷ 1 ∷ 1 ∷ []) (1 ∷ 1 ∷ 0 ∷ 0 ∷ 0 ∷ 0 ∷ 1 ∷ 1 ∷ 0 ∷ 1 ∷ 1 ∷ 1 ∷ [])
    ≡ literal 0 (0 ∷ 1 ∷ []) ∷ literal 1 (0 ∷ 1 ∷ []) ∷ gate Max 0 1 ∷ literal 2 (1 ∷ 0 ∷ 0 ∷ []) ∷ literal 1 (1 ∷ 0 ∷ []) ∷ gate Min 3 4 ∷ literal 2 (0 ∷ 1 ∷ 0 ∷ []) ∷ literal 1 (0 ∷ 1 ∷ []) ∷ gate Min 6 7 ∷ gate Max 5 8 ∷ literal 2 (0 ∷ 0 ∷ 1 ∷ []) ∷ constant 1 ∷ gate Min 10 11 ∷ gate Max 9 12 ∷ gate Min 2 13 ∷ [])
    × (network_set (settings Max MostValues false) (2 ∷ 2 ∷ 3 ∷ []) 3 (1 ∷ 1 ∷ 1 ∷ 1 ∷ 1 ∷ 0 ∷ 0 ∷ 2 ∷ 0 ∷ 0 ∷ 2 ∷ 2 ∷ []) (1 ∷ 1 ∷ 1 ∷ 2 ∷ 1 ∷ 0 ∷ 1 ∷ 2 ∷ 0 ∷ 0 ∷ 2 ∷ 2 ∷ [])
    ≡ literal 2 (2 ∷ 0 ∷ 0 ∷ []) ∷ constant 1 ∷ gate Min 0 1 ∷ literal 2 (0 ∷ 2 ∷ 0 ∷ []) ∷ literal 0 (2 ∷ 0 ∷ []) ∷ constant 1 ∷ gate Min 4 5 ∷ literal 0 (0 ∷ 2 ∷ []) ∷ literal 1 (0 ∷ 2 ∷ []) ∷ gate Min 7 8 ∷ gate Max 6 9 ∷ gate Min 3 10 ∷ gate Max 2 11 ∷ literal 2 (0 ∷ 0 ∷ 2 ∷ []) ∷ literal 1 (0 ∷ 2 ∷ []) ∷ gate Min 13 14 ∷ gate Max 12 15 ∷ [])
    × (network_set (settings Min Lowest false) three 3 (1 ∷ 1 ∷ 0 ∷ 1 ∷ 0 ∷ 1 ∷ 0 ∷ 2 ∷ []) (1 ∷ 1 ∷ 1 ∷ 1 ∷ 0 ∷ 1 ∷ 2 ∷ 2 ∷ [])
    ≡ literal 0 (2 ∷ 0 ∷ []) ∷ literal 2 (1 ∷ 0 ∷ []) ∷ gate Min 0 1 ∷ literal 0 (0 ∷ 2 ∷ []) ∷ literal 2 (1 ∷ 2 ∷ []) ∷ gate Min 3 4 ∷ gate Max 2 5 ∷ literal 1 (1 ∷ 2 ∷ []) ∷ gate Min 6 7 ∷ [])
    -- step 4, of the sets of max and then of min: more conditions, then the smaller difference, and on a full tie the gate that wins it
    × (choose Min (sets 1 2) (sets 4 8) ≡ joining Min 4 8)
    × (choose Max (sets 1 2) (sets 4 8) ≡ joining Max 1 2)
    × (choose Min (sets 3 4) (sets 1 2) ≡ joining Max 3 4)
    × (choose Max (sets 1 2) (sets 3 4) ≡ joining Min 3 4)
    × (choose Min (sets 3 12) (sets 7 8) ≡ joining Max 3 12)
    × (choose Max (sets 7 8) (sets 3 12) ≡ joining Min 3 12)
    × (choose Min (sets 1 2) none ≡ joining Max 1 2)
    × (choose Max none (sets 1 2) ≡ joining Min 1 2)
    -- the forecast is that of the settings
    × (forecast_call (settings Min Lowest true) 2 (card_bytes two) 3 4 4 128 (limits (0 ∷ 0 ∷ 1 ∷ 2 ∷ []) (0 ∷ 2 ∷ 1 ∷ 2 ∷ [])) ≡ accepted (figures 3 1))
    × (forecast_call (settings Max MostValues true) 2 (card_bytes (2 ∷ 3 ∷ [])) 2 6 6 192 (limits (0 ∷ 0 ∷ 0 ∷ 1 ∷ 1 ∷ 0 ∷ []) (0 ∷ 0 ∷ 0 ∷ 1 ∷ 1 ∷ 0 ∷ [])) ≡ accepted (figures 11 3))
    × (forecast_call usual 2 (card_bytes (2 ∷ 3 ∷ [])) 2 6 6 192 (limits (0 ∷ 0 ∷ 0 ∷ 1 ∷ 1 ∷ 0 ∷ []) (0 ∷ 0 ∷ 0 ∷ 1 ∷ 1 ∷ 0 ∷ [])) ≡ accepted (figures 7 2))
    × (forecast_call (settings Max Lowest false) 2 (card_bytes two) 3 4 4 128 (limits (0 ∷ 1 ∷ 1 ∷ 2 ∷ []) (0 ∷ 1 ∷ 1 ∷ 2 ∷ [])) ≡ accepted (figures 7 2))
    × (forecast_call usual 2 (card_bytes two) 3 4 4 128 (limits (0 ∷ 1 ∷ 1 ∷ 2 ∷ []) (0 ∷ 1 ∷ 1 ∷ 2 ∷ [])) ≡ accepted (figures 5 2))
    -- no setting changes what is refused: the work buffer has 32 bytes for each cell also where no weak join is tried
    × (compile_under (settings Min MostValues false) E 127 112 ≡ 10)
    × (compile_under (settings Min MostValues false) E 128 111 ≡ 10)
    × (compile_under (settings Min MostValues false) (1 ∷ 1 ∷ 1 ∷ 1 ∷ []) 128 112 ≡ 5)
    × (compile_under (settings Min MostValues false) E 128 112 ≡ 0)
    -- settings by the bits of a byte
    × (settings_of 0 ≡ usual)
    × (settings_of 1 ≡ settings Min Lowest true)
    × (settings_of 2 ≡ settings Max MostValues true)
    × (settings_of 4 ≡ settings Max Lowest false)
    × (settings_of 7 ≡ settings Min MostValues false)
    × (settings_of 248 ≡ usual)
    × (settings_of 255 ≡ settings_of 7)
