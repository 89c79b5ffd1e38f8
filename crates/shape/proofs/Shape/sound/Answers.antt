-- `shape::Shape::sound` meets its contract.
use Rattle.std.proofs.Common.{rules}
use mathlib.Core.Path.{◌∙◌}
use Rattle.shape.proofs.ShapeLaws.{cards_pass}
use Rattle.shape.proofs.Shape.sound.Goals as goal

pub returns-then-self-le-MAX_GRADES : goal.returns-then-self-le-MAX_GRADES
returns-then-self-le-MAX_GRADES c = search (rules, c.cards_sound-cards.ensures ∙ cards_pass c.args.self c.cards.ensures)

pub returns-else-self-le-MAX_GRADES : goal.returns-else-self-le-MAX_GRADES
returns-else-self-le-MAX_GRADES c = search (rules, c.cards_sound-cards.ensures ∙ cards_pass c.args.self c.cards.ensures)
