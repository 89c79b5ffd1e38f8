-- `panel_reads::read` meets its contract.
use Rattle.panel_reads.proofs.ReadLaws.{read_short, read_refuses, reads}
use Rattle.panel_reads.proofs.read.Goals as goal

pub returns-then-shape-lt-BYTES : goal.returns-then-shape-lt-BYTES
returns-then-shape-lt-BYTES c =
    let a = c.args in
    read_short a.file.now a.shape.now a.lower.now a.upper.now c.no_room.result c.if-shape-lt-BYTES.true c.no_room.ensures

pub put_shape-requires : goal.put_shape-requires
put_shape-requires c = c.if-shape-lt-BYTES.false

pub returns-in-Err : goal.returns-in-Err
returns-in-Err c =
    let a = c.args in
    read_refuses a.file.now a.shape.now a.lower.now a.upper.now c.if-shape-lt-BYTES.false _ _ c.of_refusal.result _ _ c.in-Err.is c.read_table.ensures c.of_refusal.ensures

pub returns-in-Ok : goal.returns-in-Ok
returns-in-Ok c =
    let a = c.args in
    reads a.file.now a.shape.now a.lower.now a.upper.now c.if-shape-lt-BYTES.false _ _ _ _ _ c.in-Ok.is c.read_table.ensures c.put_shape.ensures
