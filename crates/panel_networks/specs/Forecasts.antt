-- What `grades_forecast_with` promises, and `grades_forecast` of the usual settings.
use Rattle.std.specs.Prelude.{ℕ, ◌/◌, ◌%◌, ◌≤◌, ◌<◌, ◌≡◌, List, ◌∷◌, leb, length, drop}
use Rattle.rules.specs.declared.Refusal.TheVariants.{ShapeRange, ShortBuffer}
use Rattle.rules.specs.declared.Settings.{Settings}
use Rattle.rules.specs.Bytes.{word, Past}
use Rattle.rules.specs.Cell.{cells}
use Rattle.rules.specs.CompileCall.{compile_work}
use Rattle.rules.specs.Verdict.{Verdict, accepted, refused, unless}
use Rattle.rules.specs.Network.{network_records}
use Rattle.rules.specs.Forecast.{Forecast, network_depth}
use Rattle.shape.specs.declared.Shape.{Shape}
use Rattle.shape.specs.Shapes.{places_of, is_sound}
use Rattle.compile.specs.Compiling.{written}
use Rattle.compile.specs.Forecasting.{forecast_rows}
use Rattle.panel_answers.specs.Answers.{lent_shape, lent, call_number}
use Rattle.panel_networks.specs.Compiles.{Compiles}

-- the rows of a forecast, with the depth's buffer among those that may be too short
abbrev pub depth_rows : Settings → List ℕ → List ℕ → List ℕ → List ℕ → Shape → Verdict Forecast
depth_rows how lower upper work depth shape =
    unless (is_sound shape) ShapeRange (unless (leb 2 (length depth)) ShortBuffer (forecast_rows how shape lower upper work))

-- a number as two bytes, the low one first, at the front of a buffer
abbrev pub with_word : ℕ → List ℕ → List ℕ
with_word n buffer = n % 256 ∷ n / 256 ∷ drop 2 buffer

-- the depth's buffer after it: two bytes and what lay behind them, or all as it was
abbrev pub depth_after : Verdict Forecast → List ℕ → List ℕ
depth_after (accepted f) depth = with_word f.depth depth
depth_after (refused r) depth = depth

module _ (how : Settings) (bytes lower upper work depth : List ℕ) where
  abbrev verdict : Verdict Forecast
  verdict = lent bytes (depth_rows how lower upper work depth)

  -- both figures are those of the network that compiling under the same settings has written for the same table, as its bytes are read
  abbrev pub Foretells : ℕ → ℕ → Type 0
  Foretells count levels = (work network work' network' : List ℕ) (n : ℕ) → Compiles how bytes lower upper work network n work' network' → n < 65536
      → (count ≡ n) × (levels ≡ network_depth (network_records (places_of (lent_shape bytes)) (written n network')))

  -- how many records, and every byte of the depth's buffer, by these rows; a refusal leaves the work buffer too, and nothing
  -- changes its length or its bytes past those that it asks for
  pub record Forecasts (r : ℕ) (work' depth' : List ℕ) : Type 0 where
    pub answer : r ≡ call_number verdict (λ f. f.count)
    pub depth-after : depth' ≡ depth_after verdict depth
    pub foretells : r < 65536 → Foretells r (word depth' 0)
    pub refusal_keeps : 65536 ≤ r → work' ≡ work
    pub kept : Past (compile_work (cells (places_of (lent_shape bytes)))) work work'
