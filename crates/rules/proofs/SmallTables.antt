-- The small tables hold: antt computes both sides of every row.
use mathlib.Core.Path.{refl}
use Rattle.rules.specs.SmallForecasts.{Forecasts}
use Rattle.rules.specs.Small.{Small}
use Rattle.rules.specs.SmallListings.{SmallListings}
use Rattle.rules.specs.SmallVisits.{Visits}
use Rattle.rules.specs.SmallWeak.{WeakJoins}
use Rattle.rules.specs.SmallEditions.{Conversions}
use Rattle.rules.specs.SmallCeilings.{Ceilings}
use Rattle.rules.specs.SmallSettings.{SettingsTaken}

pub small-tables : Small
small-tables =
    (refl, refl, refl, refl, refl, refl, refl, refl, refl, refl, refl, refl, refl, refl, refl, refl, refl, refl, refl, refl, refl, refl, refl, refl, refl, refl, refl, refl, refl, refl, refl, refl, refl, refl, refl, refl, refl, refl, refl, refl, refl, refl, refl, refl, refl, refl, refl, refl, refl, refl, refl, refl, refl, refl, refl, refl)

-- So do the listings.
pub small_listings : SmallListings
small_listings =
    (refl, refl, refl, refl, refl, refl, refl, refl, refl, refl, refl, refl, refl, refl, refl, refl, refl, refl, refl, refl, refl, refl, refl, refl, refl)

pub forecasts : Forecasts
forecasts = (refl, refl, refl, refl, refl, refl, refl, refl, refl, refl, refl, refl, refl, refl, refl, refl)

pub visits : Visits
visits = (refl, refl, refl, refl, refl, refl, refl, refl, refl, refl, refl, refl, refl, refl, refl)

pub weak-joins : WeakJoins
weak-joins = (refl, refl, refl, refl, refl, refl, refl, refl, refl)

pub conversions : Conversions
conversions =
    (refl, refl, refl, refl, refl, refl, refl, refl, refl, refl, refl, refl, refl, refl, refl, refl, refl, refl, refl, refl, refl, refl, refl, refl, refl, refl, refl, refl, refl)

pub ceilings : Ceilings
ceilings =
    (refl, refl, refl, refl, refl, refl, refl, refl, refl, refl, refl, refl, refl, refl, refl, refl, refl, refl, refl, refl, refl, refl, refl)

pub settings-taken : SettingsTaken
settings-taken =
    (refl, refl, refl, refl, refl, refl, refl, refl, refl, refl, refl, refl, refl, refl, refl, refl, refl, refl, refl, refl, refl, refl, refl, refl, refl, refl, refl, refl, refl, refl, refl, refl, refl, refl, refl, refl, refl, refl, refl, refl, refl)
