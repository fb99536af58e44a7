use Rattle.std.proofs.Common.{rules}
use Rattle.reader.proofs.Exactly.{exactly_slice}
use Rattle.reader.proofs.run.read.Goals as goal

pub returns-in_err-read-clause-exact : goal.returns-in_err-read-clause-exact
returns-in_err-read-clause-exact c = exactly_slice c.args.run.now c.args.place _ c.type_inv.run (search rules)

pub returns-clause-exact : goal.returns-clause-exact
returns-clause-exact c = exactly_slice c.args.run.now c.args.place _ c.type_inv.run (search rules)
