-- `compile::forecast` meets its contract.
use Rattle.compile.proofs.ForecastLaws.{forecasts_as}
use Rattle.compile.proofs.forecast.Goals as goal

pub returns : goal.returns
returns c = forecasts_as c.usual.ensures c.forecast_with.ensures
