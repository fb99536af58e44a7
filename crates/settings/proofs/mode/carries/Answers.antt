use Rattle.std.proofs.Common.{rules}
use Rattle.settings.proofs.ModeLaws.{carried_names}
use Rattle.settings.proofs.mode.carries.Goals as goal

pub returns : goal.returns
returns c = let names = carried_names c.args.step c.args.value (search rules) in search rules
