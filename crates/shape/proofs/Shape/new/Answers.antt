-- `shape::Shape::new` meets its contract.
use mathlib.Core.Path.{sym, ◌∙◌}
use Rattle.rules.specs.declared.Refusal.TheVariants.{ShapeRange}
use Rattle.rules.specs.Verdict.{accepted, refused}
use Rattle.shape.proofs.ShapeLaws.{makes_as, new_sound, new_unsound}
use borrow.Author.Rules.{rules}
use Rattle.shape.proofs.Shape.new.Goals as goal

pub returns-then-sound : goal.returns-then-sound
returns-then-sound c =
    let a = c.args in
    makes_as _ (accepted _) (new_sound a.n a.cards a.m (search rules) (sym c.sound.ensures ∙ c.if-sound.true))

pub returns-else-sound : goal.returns-else-sound
returns-else-sound c =
    let a = c.args in
    makes_as _ (refused ShapeRange) (new_unsound a.n a.cards a.m (search rules) (sym c.sound.ensures ∙ c.if-sound.false))
