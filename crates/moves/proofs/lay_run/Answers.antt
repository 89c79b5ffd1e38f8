-- `moves::lay_run` meets its contract.
use Prim.Native.Nat.{◌+◌}
use mathlib.Core.Path.{sym, ◌∙◌, ap}
use mathlib.Core.Bool.{Bool}
use Rattle.rules.specs.Bytes.{pick, at}
use Rattle.laws.proofs.TableLaws.{at-tabulate}
use Rattle.tables.proofs.PartLaws.{part_at, laid_same}
use Rattle.moves.proofs.MoveLaws.{flag_on}
use Rattle.moves.proofs.lay_run.Goals as goal

pub returns-then-this-ne0 : goal.returns-then-this-ne0
returns-then-this-ne0 g c =
    let s = c.args in
    let e = flag_on g.row.ALONG c.if-this-ne0.true in
    laid_same _ c.copy.ensures
    (λ k h. part_at s.w.now s.from s.len k h ∙ sym (at-tabulate s.len _ k h ∙ ap (λ (t : Bool). at s.w.now (s.from + pick t k 0)) e))
