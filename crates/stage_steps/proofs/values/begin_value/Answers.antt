-- `stage_steps::values::begin_value` meets its contract.
use Rattle.stage_steps.specs.Rows.{RowsLaid}
use Rattle.stage_steps.proofs.ValueLaws.{lay_room, single-below, single-room, single-laid, value-begun}
use Rattle.stage_steps.proofs.values.begin_value.Goals.{Joined-step-eq1, then-step-eq1, else-step-eq1}
use Rattle.stage_steps.proofs.values.begin_value.Goals as goal

pub cofactor-requires : goal.cofactor-requires
cofactor-requires c =
    let p = c.requires in
    let e = c.if-step-eq1.true in
    (single-below p e, single-room p e)

pub lay-requires : goal.lay-requires
lay-requires c = lay_room c.requires

-- the tables, in either way
laid : (c : Joined-step-eq1) → let s = c.args in RowsLaid s.w.now s.i s.n s.step s.values s.c s.k 4 c.if-step-eq1.w
laid c =
    let p = c.requires in
    elim c.if-step-eq1.branch [
      | then-step-eq1 x ↦ rw x.w-is (single-laid p x.if-step-eq1.true x.cofactor.ensures)
      | else-step-eq1 x ↦ rw x.w-is x.lay.ensures
    ]

pub shape_of-w : goal.shape_of-w
shape_of-w c = (laid (goal.at.shape_of-w c).Joined-step-eq1).len

pub returns : goal.returns
returns c = rw c.of_record.ensures (value-begun c.requires (laid (goal.at.returns c).Joined-step-eq1) c.put_selector.ensures)
