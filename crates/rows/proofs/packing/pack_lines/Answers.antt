-- `rows::packing::pack_lines` meets its contract.
use mathlib.Core.Path.{◌∙◌}
use native.Mathlib.Omega.{arith}
use borrow.Author.Rules.{rules}
use Rattle.tables.proofs.PartLaws.{filled_more, filled_all}
use Rattle.tables.proofs.LineLaws.{line-start, block-line}
use Rattle.tables.proofs.PackLaws.{unpacked}
use Rattle.rows.proofs.packing.pack_lines.Goals as goal

pub loop-o-preserved : goal.loop-o-preserved
loop-o-preserved c =
    let l = c.loop-o in
    let h = c.requires.1 in
    let e = l.invariant.1.len in (
      search rules,
      filled_more _ l.invariant.1 (omega (arith, line-start (block-line l.w l.o c.requires.0 e c.loop-o-test.true)))
          (c.line_extreme.ensures ∙ unpacked c.args.lines.greatest _ _ _ c.requires.0.some l.invariant.1 (omega arith)),
    )

pub returns : goal.returns
returns c = filled_all _ (omega arith) c.loop-o.invariant.1
