-- Rows of forecasts: each rules out some wrong reading of request 1.
use Rattle.std.specs.Prelude.{ℕ, ◌≡◌, List, [], ◌∷◌}
use Rattle.rules.specs.declared.Gate.TheVariants.{Min, Max}
use Rattle.rules.specs.Settings.{usual}
use Rattle.rules.specs.Verdict.{Verdict, accepted, verdict_number}
use Rattle.rules.specs.Network.{constant, literal, gate}
use Rattle.rules.specs.Forecast.{Forecast, network_depth, forecast_of, forecast_call}
use Rattle.rules.specs.Small.{card_bytes, limits, network, exact_network, two, three, E, parity}

abbrev pub figures : ℕ → ℕ → Forecast
figures count depth = record { count = count; depth = depth }

-- of a table over cardinalities 2 2 with m grades and E's upper limits, in buffers of these lengths
abbrev pub forecast_two : List ℕ → ℕ → ℕ → ℕ → ℕ → Verdict Forecast
forecast_two l m lower upper work = forecast_call usual 2 (card_bytes two) m lower upper work (limits l E)

abbrev pub Forecasts : Type 0
Forecasts =
    -- a constant and a literal have depth 0, a gate of two literals 1
    (forecast_of (network [] 4 (1 ∷ []) (3 ∷ [])) ≡ figures 1 0)
    × (forecast_of (exact_network (2 ∷ []) 2 (0 ∷ 1 ∷ [])) ≡ figures 1 0)
    × (forecast_of (exact_network two 2 (0 ∷ 1 ∷ 1 ∷ 1 ∷ [])) ≡ figures 3 1)
    -- a split: the total's gate over a value's
    × (forecast_of (exact_network two 2 E) ≡ figures 7 2)
    × (forecast_of (exact_network three 2 parity) ≡ figures 19 4)
    -- one more than the deeper input, be it the left or the right one; and under the last record, not anywhere
    × (network_depth (constant 1 ∷ gate Max 0 0 ∷ gate Min 1 0 ∷ []) ≡ 2)
    × (network_depth (constant 1 ∷ gate Max 0 0 ∷ gate Min 0 1 ∷ []) ≡ 2)
    × (network_depth (constant 1 ∷ gate Max 0 0 ∷ gate Min 0 1 ∷ gate Max 0 0 ∷ []) ≡ 1)
    × (network_depth (gate Max 0 0 ∷ literal 0 (0 ∷ 1 ∷ []) ∷ []) ≡ 0)
    -- the rows in their order: 4, 10 for each buffer, 5
    × (forecast_two E 2 4 4 128 ≡ accepted (figures 7 2))
    × (verdict_number (forecast_two E 2 4 4 127) ≡ 10)
    × (verdict_number (forecast_two E 2 3 4 128) ≡ 10)
    × (verdict_number (forecast_two E 2 4 3 128) ≡ 10)
    × (verdict_number (forecast_two (1 ∷ 1 ∷ 1 ∷ 0 ∷ []) 2 4 4 128) ≡ 5)
    × (verdict_number (forecast_two (1 ∷ 1 ∷ 1 ∷ 0 ∷ []) 2 4 4 127) ≡ 10)
    × (verdict_number (forecast_two (1 ∷ 1 ∷ 1 ∷ 0 ∷ []) 1 4 4 127) ≡ 4)
