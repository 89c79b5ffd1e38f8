use Rattle.std.specs.Prelude.{◌≡◌, None}
use Rattle.tables.specs.Part.{part}
use Rattle.masks.proofs.SearchLaws.{Outer, Inner, admitted}
use Rattle.masks.proofs.first_pair.Given as goal

abbrev pub invariant-loop-j : goal.invariant-loop-j
invariant-loop-j l = (l.found ≡ None) × Inner (admitted l.fn.ks (part l.w l.a l.n)) l.i l.j

abbrev pub invariant-search : goal.invariant-search
invariant-search l = (l.found ≡ None) × Outer (admitted l.fn.ks (part l.w l.a l.n)) l.i
