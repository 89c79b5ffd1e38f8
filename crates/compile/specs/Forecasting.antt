-- What `forecast` promises.
use Rattle.std.specs.Prelude.{ℕ, ◌≡◌, List, [], ◌∷◌, Result, Ok, Err, length}
use Rattle.rules.specs.declared.Refusal.{Refusal}
use Rattle.rules.specs.declared.Settings.{Settings}
use Rattle.rules.specs.Bytes.{Past}
use Rattle.rules.specs.Cell.{cells}
use Rattle.rules.specs.Verdict.{Verdict, result_of, says, answer_of}
use Rattle.rules.specs.Network.{network_records}
use Rattle.rules.specs.CompileCall.{compile_work, lent_limits}
use Rattle.rules.specs.Forecast.{Forecast, network_depth, forecast_call, Foretold}
use Rattle.shape.specs.declared.Shape.{Shape}
use Rattle.shape.specs.Shapes.{cards_of, places_of}
use Rattle.compile.specs.declared.Figures.{Figures}
use Rattle.compile.specs.Compiling.{written, Compiles}

-- the two figures, as an answer has them
abbrev pub figures_of : Forecast → Figures
figures_of f = record { records = f.count; depth = f.depth }

module _ (how : Settings) (shape : Shape) (lower upper : List ℕ) where
  -- the rows of a forecast
  abbrev pub forecast_rows : List ℕ → Verdict Forecast
  forecast_rows work = forecast_call how shape.n (cards_of shape) shape.m (length lower) (length upper) (length work) (lent_limits (places_of shape) lower upper)

  -- both figures are those of the network that any compile of the same table has written, as its bytes are read
  abbrev pub Foretells : ℕ → ℕ → Type 0
  Foretells records depth = (work network work' network' : List ℕ) (n : ℕ) → Compiles how shape lower upper work network (Ok n) work' network'
      → (records ≡ n) × (depth ≡ network_depth (network_records (places_of shape) (written n network')))

  -- the answer by the rows, for every shape and all buffers: beside a compile of the same table whose network buffer is long enough, a refusal
  -- is that compile's, and figures are those of its network; a refusal leaves the work buffer, and nothing changes its length or its bytes past
  -- those that it asks for
  pub record Forecasts (work : List ℕ) (answer : Result Figures Refusal) (work' : List ℕ) : Type 0 where
    pub answers : answer ≡ result_of figures_of (forecast_rows work)
    pub means : says (λ g. g.records ∷ g.depth ∷ []) answer ≡ answer_of (λ f. f.count ∷ f.depth ∷ []) (forecast_rows work)
    pub stops : Foretold how shape.n (cards_of shape) shape.m (length lower) (length upper) (length work) (lent_limits (places_of shape) lower upper)
    pub foretells : (told : Figures) → answer ≡ Ok told → Foretells told.records told.depth
    pub refusal_keeps : (r : Refusal) → answer ≡ Err r → work' ≡ work
    pub kept : Past (compile_work (cells (places_of shape))) work work'
