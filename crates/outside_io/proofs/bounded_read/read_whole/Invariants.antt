use Rattle.std.proofs.Common.{◌≤◌, vec_len}
use Rattle.outside_io.proofs.bounded_read.read_whole.Given as goal

abbrev pub invariant-pieces : goal.invariant-pieces
invariant-pieces g l = vec_len l.into ≤ l.limit
