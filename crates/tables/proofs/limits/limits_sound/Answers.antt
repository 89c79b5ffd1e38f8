-- `tables::limits::limits_sound` meets its contract.
use Rattle.std.proofs.Common.{rules, tests, ◌∙◌, leb, ltb, ◌&&◌, take, ap}
use Rattle.std.proofs.lemmas.Iterator.{YieldsList-from_slice, YieldsList-from_zip}
use Rattle.std.proofs.lemmas.Iterator.Search.{all_from_yields_List}
use Rattle.std.proofs.lemmas.List.{length-take-le}
use Rattle.std.specs.Slice.Iter.{iter_rest}
use lib.Seq.{get_or-take}
use Rattle.laws.proofs.ChainLaws.{paired-all}
use Rattle.laws.proofs.TableLaws.{all_same}
use Rattle.tables.proofs.limits.limits_sound.Goals as goal

pub returns : goal.returns
returns c =
    let s = c.args in
    let low = s.lower.now in
    let high = s.upper.now in
    all_from_yields_List (λ p. leb p.0 p.1 && ltb p.1 s.m) c.all.new.self _ c.all.result c.all.ensures.ran
    (YieldsList-from_zip (YieldsList-from_slice (take s.n low) (ap iter_rest c.zip.ensures.first ∙ c.iter.ensures.rest)) (YieldsList-from_slice (take s.n high) c.zip.ensures.second.0))
    (λ x b q k. search (rules, tests))
    ∙ paired-all (λ p. leb p.0 p.1 && ltb p.1 s.m) 0 s.n (take s.n low) (take s.n high) (length-take-le s.n low c.requires.0) (length-take-le s.n high c.requires.1)
    ∙ all_same s.n _ _ (λ k lt. rw (get_or-take s.n low k 0 lt, get_or-take s.n high k 0 lt))
