-- `places::sets::lowest` meets its contract.
use mathlib.Core.Path.{sym, ap, ◌∙◌}
use mathlib.Core.List.{List}
use Prim.Native.Nat.{ℕ}
use native.Mathlib.Omega.{arith}
use lib.Dec.{T, lt→ltb, ltb→lt}
use lib.ListN.{get_or-eq_default}
use Rattle.rules.specs.Cell.{present, card}
use Rattle.laws.proofs.LoopLaws.{lowest-at, card_read}
use borrow.Author.Count.{below_more}
use Rattle.places.proofs.sets.lowest.Goals as goal

pub returns-then-card-gt1 : goal.returns-then-card-gt1
returns-then-card-gt1 c =
    let i = c.loop-number.number in
    let ks : List ℕ = c.args.ks in
    let e = lowest-at ks i (omega arith) c.loop-number.invariant (λ h. rw (← (card_read ks i h)) (lt→ltb _ _ c.if-card-gt1.true)) in
    record { number = sym e; values = c.from.ensures ∙ card_read ks i (omega arith) ∙ ap (card ks) (sym e) }

pub loop-number-preserved : goal.loop-number-preserved
loop-number-preserved c =
    let i = c.loop-number.number in
    let ks : List ℕ = c.args.ks in
    let no : T (present ks i) → ⊥ = λ t. omega (arith, ltb→lt 1 (card ks i) t, card_read ks i (omega arith), c.if-card-gt1.false) in
    below_more (λ j. T (present ks j) → ⊥) i c.loop-number.invariant no

pub returns : goal.returns
returns c =
    let ks : List ℕ = c.args.ks in
    let e = lowest-at ks 8 (omega arith) (λ j h. c.loop-number.invariant j (omega arith)) (λ h. absurd (omega arith)) in
    record { number = sym e; values = sym (ap (card ks) e ∙ get_or-eq_default ks 1 (omega arith)) }
