-- `join_tables::exchange` meets its contract.
use Prim.Native.Nat.{◌+◌}
use native.Mathlib.Omega.{arith}
use Rattle.join_tables.proofs.TurnLaws.{turn_ready, exchanging_on, exchanged_max, exchanged_min}
use Rattle.join_tables.proofs.exchange.Goals as goal

pub complement-requires : goal.complement-requires
complement-requires c = let a = c.args in turn_ready c.requires (a.from + a.n) a.to (omega arith) (omega arith) (omega arith) (omega arith)

pub complement-requires-in-Min : goal.complement-requires-in-Min
complement-requires-in-Min c = let a = c.args in turn_ready (exchanging_on c.requires c.complement.ensures) a.from (a.to + a.n) (omega arith) (omega arith) (omega arith) (omega arith)

pub returns-in-Max : goal.returns-in-Max
returns-in-Max c = rw c.in-Max.is (exchanged_max c.requires c.copy.ensures)

pub returns-in-Min : goal.returns-in-Min
returns-in-Min c = rw c.in-Min.is (exchanged_min c.requires c.complement.ensures c.complement-in-Min.ensures)
