-- `extremes::over_places` meets its contract.
use Prim.Native.Nat.{ℕ, ◌-◌, ◌*◌, ◌/◌, ◌<◌}
use mathlib.Core.Path.{◌≡◌, sym, ◌∙◌, ap, subst}
use native.Mathlib.Omega.{arith}
use borrow.Author.Rules.{rules}
use lib.Dec.{T}
use mathlib.Core.Bool.{not}
use lib.ListN.{get_or}
use Rattle.rules.specs.Cell.{has}
use Rattle.tables.specs.Part.{part}
use Rattle.rows.specs.Grades.{source}
use Rattle.rows.specs.Blocks.{Tables}
use Rattle.extremes.specs.Walk.{Swept}
use Rattle.rows.proofs.BlockLaws.{counted}
use Rattle.places.proofs.MemberLaws.{above, outside, inside}
use Rattle.extremes.proofs.WalkLaws.{runs_swept, along-tables, lines_swept, passed_swept, card-is, card-some, step_is, tables_down, row_down, Turn, some-cells, some-rows, row_room, row_inside, row_in_place, table_more}
use Rattle.extremes.proofs.+over_places.Goals.{Else-i-walk-2, In-loop-b}
use Rattle.extremes.proofs.+over_places.Goals as goal

pub returns-then-i-walk : goal.returns-then-i-walk
returns-then-i-walk t c = runs_swept c.args.walk.greatest c.requires.0 c.args.walk.set (λ j lt. c.requires.1.inside j (let h = c.if-i-walk.true in omega arith)) c.runs.ensures

pub along-requires : goal.along-requires
along-requires t c = (along-tables c.requires.0, c.requires.3)

pub returns-then-i-walk-2 : goal.returns-then-i-walk-2
returns-then-i-walk-2 t c =
    let e = c.if-i-walk-2.true in
    lines_swept c.args.walk.greatest c.requires.0 c.args.walk.set (subst (λ (j : ℕ). T (has c.args.walk.set j)) (sym e) c.requires.1.member) (λ j lt. c.requires.1.none j (omega arith)) c.along.ensures

-- a place that is not the lowest member's
lower : (t : ℕ) (c : Else-i-walk-2 t) → let s = c.args in s.walk.lowest < s.i
lower t c = above c.requires.2 c.if-i-walk-2.false

pub row_of-requires : goal.row_of-requires
row_of-requires t c = card-some c.requires.0 (search rules)

pub over_places-requires : goal.over_places-requires
over_places-requires t c =
    let p = c.requires.0 in
    let i = lower t (goal.at.over_places-requires t c).Else-i-walk-2 in
    (omega arith, (subst (λ (r : ℕ). Tables c.args.walk.places (c.args.i - 1) r c.args.n) (sym c.row_of.ensures) (tables_down p (search rules) (omega arith)), c.requires.1, omega arith, c.requires.3))

pub returns-then-not-has_member : goal.returns-then-not-has_member
returns-then-not-has_member t c =
    passed_swept c.args.walk.greatest c.requires.0 c.args.walk.set (c.row_of.ensures ∙ step_is c.requires.0 (search rules)) (outside c.args.walk.set c.args.i c.has_member.ensures (ap not c.if-not-has_member.true)) c.over_places.ensures

pub nonzero_div-step : goal.nonzero_div-step
nonzero_div-step t c = card-some c.requires.0 (search rules)

-- the walk before the table that the loop is at
turn : (t : ℕ) (c : In-loop-b t)
    → let s = c.args in
    let l = c.loop-b in
    let card = get_or s.walk.places s.i 0 in
    Turn s.walk.greatest s.walk.places s.walk.set s.i s.size s.n (s.size / card) card s.lent.now s.w.now s.from s.to l.b l.w
turn t c =
    let p = c.requires.0 in
    record {
      tables = p;
      row = step_is p (search rules);
      count = card-is p (search rules);
      member = inside c.args.walk.set c.args.i c.has_member.ensures (ap not c.if-not-has_member.false);
      reads = c.requires.3;
      more = c.loop-b-test.true;
      done = c.loop-b.invariant.1;
    }

pub first_row-requires : goal.first_row-requires
first_row-requires t c = let u = turn t (goal.at.first_row-requires t c).In-loop-b in (some-rows u, some-cells u, row_room u)

pub over_places-requires-in-loop-b : goal.over_places-requires-in-loop-b
over_places-requires-in-loop-b t c =
    let i = lower t (goal.at.over_places-requires-in-loop-b t c).Else-i-walk-2 in
    (omega arith, (row_down c.requires.0 (search rules) (omega arith), c.requires.1, omega arith, row_in_place (turn t (goal.at.over_places-requires-in-loop-b t c).In-loop-b) _ c.first_row.ensures.len))

pub repeat_row-requires : goal.repeat_row-requires
repeat_row-requires t c =
    let u = turn t (goal.at.repeat_row-requires t c).In-loop-b in
    record { some = some-rows u; inside = row_inside u c.over_places-in-loop-b.new.w (c.over_places-in-loop-b.ensures.len ∙ c.first_row.ensures.len) }

pub loop-b-preserved : goal.loop-b-preserved
loop-b-preserved t c =
    (search rules, table_more (turn t (goal.at.loop-b-preserved t c).In-loop-b) c.first_row.ensures c.over_places-in-loop-b.ensures c.repeat_row.ensures)

pub returns : goal.returns
returns t c =
    let s = c.args in
    let l = c.loop-b in
    let e : l.b ≡ s.n / s.size = omega arith in
    subst (λ (m : ℕ). Swept s.walk.greatest s.walk.places s.walk.set s.size s.n (part (source s.lent.now s.w.now) s.from s.n) s.w.now s.to m l.w)
    (ap (λ (x : ℕ). s.size * x) (e ∙ counted c.requires.0.several) ∙ sym c.requires.0.several.all) l.invariant.1
