use Rattle.std.proofs.Common.{length, take, ◌-◌, ◌≤◌}
use Rattle.std.specs.Io.KnownBytes.{Consumes}
use Rattle.streams.proofs.read_file.Given as goal

abbrev pub invariant-loop-len : goal.invariant-loop-len
invariant-loop-len g l = (l.len ≤ length l.file) × Consumes (g.R.Read.remaining l.initial.stdin) (g.R.Read.remaining l.stdin) (take l.len l.file)

abbrev pub decreases-loop-len : goal.decreases-loop-len
decreases-loop-len g l = length l.file - l.len
