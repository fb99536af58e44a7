use Rattle.std.proofs.Common.{◌≡◌, rules}
use Rattle.script.specs.Lines.{parsed}
use Rattle.script.proofs.Blocks.{parsed_short}
use Rattle.script.proofs.Plain.{plainly}
use Rattle.script.proofs.parse.parse.Goals as goal

pub returns : goal.returns
returns c =
    let line = c.args.line.now in
    let said : c.parse_parts.result ≡ parsed line = search rules in
    record { is = said; block = parsed_short line _ said; plainly = plainly line _ said }
