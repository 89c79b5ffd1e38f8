-- How a stage begins: whether its masks are known, and whether it may take a weak join.
use Rattle.std.specs.Prelude.{Bool, true, false}
use Rattle.stages.specs.declared.Begin.{Begin}
use Rattle.stages.specs.declared.Begin.TheVariants.{Masked, Fresh, Tight}

abbrev pub is_masked : Begin → Bool
is_masked Masked = true
is_masked Fresh = false
is_masked Tight = false

abbrev pub may_take : Begin → Bool
may_take Masked = true
may_take Fresh = true
may_take Tight = false
