-- `extremes::over_one` meets its contract.
use borrow.Author.Rules.{rules}
use Rattle.tables.proofs.PartLaws.{laid_same}
use Rattle.tables.proofs.OverLaws.{along-over}
use Rattle.extremes.proofs.WalkLaws.{whole-along}
use Rattle.extremes.proofs.over_one.Goals as goal

pub along-requires : goal.along-requires
along-requires c = let p = c.requires in (whole-along p.2 (search rules) p.0 p.1, p.3)

pub returns : goal.returns
returns c =
    let s = c.args in
    laid_same _ c.along.ensures (λ k lt. along-over s.greatest s.ks _ s.i s.n k c.requires.2.some (search rules) c.requires.1 lt)
