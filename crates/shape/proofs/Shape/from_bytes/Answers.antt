-- `shape::Shape::from_bytes` meets its contract.
use Rattle.std.proofs.Common.{rules, ◌≡◌, length}
use mathlib.Core.Path.{sym, subst}
use native.Mathlib.Omega.{arith}
use Rattle.rules.specs.Verdict.{Verdict}
use Rattle.shape.specs.declared.Shape.{Shape}
use Rattle.shape.specs.Shapes.{Makes}
use Rattle.shape.proofs.ShapeLaws.{makes_as, bytes-other, bytes_ten}
use Rattle.shape.proofs.Shape.from_bytes.Goals as goal

pub returns : goal.returns
returns c = subst (λ (v : Verdict Shape). Makes v c.new.result) (sym (bytes_ten c.args.bytes.now (omega (arith, c.in-len10.len_at_least, c.in-len10.len_below)))) c.new.ensures
