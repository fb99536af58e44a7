-- What is lent to `convert_for` is room enough.
use Rattle.std.proofs.Common.{arith}
use Rattle.records.proofs.run.Goals as goal

pub convert_for-transcript-requires-clause-in_bounds : goal.convert_for-transcript-requires-clause-in_bounds
convert_for-transcript-requires-clause-in_bounds c = omega (arith, c.in_ok-space.ensures.len)
