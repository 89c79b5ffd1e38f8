use mathlib.Core.Path.{◌≡◌}
use Rattle.rules.specs.Cell.{step}
use Rattle.places.proofs.step.Given as goal

abbrev pub invariant-loop-card : goal.invariant-loop-card
invariant-loop-card l = l.product ≡ step l.fn.ks l.card-index
