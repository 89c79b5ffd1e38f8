-- Request 1: how many records a table's network will have, and how deep gates stand under its last record, before it is compiled.
use Rattle.std.specs.Prelude.{ℕ, suc, ◌-◌, ◌*◌, ◌≤◌, max, ◌≡◌, List, [], ◌∷◌, ◌++◌, T, length, get_or}
use Rattle.rules.specs.declared.Settings.{Settings}
use Rattle.rules.specs.declared.Refusal.TheVariants.{ShapeRange, GradeLimits, ShortBuffer}
use Rattle.rules.specs.Cell.{cells}
use Rattle.rules.specs.Shape.{places, shape_sound}
use Rattle.rules.specs.Limits.{Limits, limits_sound}
use Rattle.rules.specs.Verdict.{Verdict, accepted, unless, and_then}
use Rattle.rules.specs.Network.{Record, constant, literal, gate}
use Rattle.rules.specs.Demands.{compiled_records}
use Rattle.rules.specs.CompileCall.{most_records, table_room, compile_call}

-- a record's depth, given those of the records before it: a gate is one deeper than the deeper of its inputs
abbrev pub record_depth : List ℕ → Record → ℕ
record_depth done (constant q) = 0
record_depth done (literal i gs) = 0
record_depth done (gate op l r) = suc (max (get_or done l 0) (get_or done r 0))

-- the depths of records, behind those that are known
abbrev pub depths : List ℕ → List Record → List ℕ
depths done [] = done
depths done (r ∷ rs) = depths (done ++ (record_depth done r ∷ [])) rs

-- the depth of a network: that of its last record, whatever other records have
abbrev pub network_depth : List Record → ℕ
network_depth rs = let d = depths [] rs in get_or d (length d - 1) 0

-- what is told before compiling
pub record Forecast : Type 0 where
  pub count : ℕ
  pub depth : ℕ

abbrev pub forecast_of : List Record → Forecast
forecast_of rs = record { count = length rs; depth = network_depth rs }

-- the settings, a shape's bytes, the lengths of the three buffers, and the table's limits: rows 4, 10 and 5, then what is told of the
-- table's network. No network buffer is lent, so row 10 asks for none
abbrev pub forecast_call : Settings → ℕ → List ℕ → ℕ → ℕ → ℕ → ℕ → Limits → Verdict Forecast
forecast_call how n cards m lower upper work l =
    unless (shape_sound n cards m) ShapeRange
    (unless (table_room (cells (places cards)) lower upper work) ShortBuffer
    (unless (limits_sound (places cards) m l) GradeLimits
    (accepted (forecast_of (compiled_records how (places cards) m l)))))

-- the claim: beside a compile of the same table whose network buffer is long enough for it, if it is a table at all, a forecast stops where
-- that stops, and else tells of the records that it writes
abbrev pub Foretold : Settings → ℕ → List ℕ → ℕ → ℕ → ℕ → ℕ → Limits → Type 0
Foretold how n cards m lower upper work l =
    (network : ℕ) → (T (shape_sound n cards m) → 16 * most_records (cells (places cards)) ≤ network)
    → forecast_call how n cards m lower upper work l ≡ and_then (compile_call how n cards m lower upper work network l) (λ rs. accepted (forecast_of rs))
