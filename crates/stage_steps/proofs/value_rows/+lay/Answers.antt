-- `stage_steps::value_rows::lay` meets its contract. It ends because there is a table less each time.
use Prim.Native.Nat.{ℕ, ◌-◌}
use native.Mathlib.Omega.{arith}
use Rattle.stage_steps.proofs.LayLaws.{lay_none, lay_before, LastTable, last-table, table-room, add-room, laid-limits, laid-masks}
use Rattle.stage_steps.proofs.value_rows.+lay.Goals.{Else-tables-eq0}
use Rattle.stage_steps.proofs.value_rows.+lay.Goals as goal

pub returns-then-tables-eq0 : goal.returns-then-tables-eq0
returns-then-tables-eq0 t c = lay_none _ _ _ _ _ _ _ c.if-tables-eq0.true

pub overflow_sub-before : goal.overflow_sub-before
overflow_sub-before t c = let h = c.if-tables-eq0.false in omega arith

pub lay-requires : goal.lay-requires
lay-requires t c =
    let b = c.before in
    let h = c.if-tables-eq0.false in
    (omega arith, lay_before b.requires (b.args.tables - 1) (omega arith))

-- the last table, and room for it
last : (t : ℕ) (c : Else-tables-eq0 t) → let s = c.args in LastTable s.w.now s.n s.c (s.tables - 1)
last t c = let l = c.if-tables-eq0.false in last-table c.requires (c.args.tables - 1) (omega arith)

pub overflow_mul-to : goal.overflow_mul-to
overflow_mul-to t c = let p = last t (goal.at.overflow_mul-to t c).Else-tables-eq0 in omega arith

pub overflow_mul-to-2 : goal.overflow_mul-to-2
overflow_mul-to-2 t c = let p = last t (goal.at.overflow_mul-to-2 t c).Else-tables-eq0 in omega arith

pub overflow_add-to : goal.overflow_add-to
overflow_add-to t c = let p = last t (goal.at.overflow_add-to t c).Else-tables-eq0 in omega arith

pub overflow_mul-before : goal.overflow_mul-before
overflow_mul-before t c = let p = last t (goal.at.overflow_mul-before t c).Else-tables-eq0 in omega arith

pub cofactor_rows-requires : goal.cofactor_rows-requires
cofactor_rows-requires t c =
    let b = c.before in
    let p = b.requires in
    let l = c.if-tables-eq0.false in
    (p.below, p.rows, table-room p (b.args.tables - 1) (omega arith) c.lay.ensures)

pub add-requires : goal.add-requires
add-requires t c =
    let b = c.before in
    let l = c.if-tables-eq0.false in
    (b.requires.there, add-room b.requires (b.args.tables - 1) (omega arith) c.lay.ensures c.cofactor_rows.ensures)

pub returns-then-tables-gt-LIMITS : goal.returns-then-tables-gt-LIMITS
returns-then-tables-gt-LIMITS t c =
    let b = c.before in
    let l = c.if-tables-eq0.false in
    laid-masks b.requires (b.args.tables - 1) (omega arith) c.lay.ensures c.cofactor_rows.ensures c.if-tables-gt-LIMITS.true c.add.ensures

pub returns-else-tables-gt-LIMITS : goal.returns-else-tables-gt-LIMITS
returns-else-tables-gt-LIMITS t c =
    let b = c.before in
    let l = c.if-tables-eq0.false in
    laid-limits b.requires (b.args.tables - 1) (omega arith) c.lay.ensures c.cofactor_rows.ensures
