use Rattle.std.proofs.Common.{◌≡◌, codes, rules}
use Rattle.std.proofs.lemmas.Slice.Eq.{text_from_reads}
use Rattle.script.proofs.parse.parse_kind.Goals as goal

pub returns-in-charge : goal.returns-in-charge
returns-in-charge c =
    let e : c.args.part.now ≡ codes "charge" = text_from_reads c.args.part.now (codes "charge") (search rules) (search rules) in
    rw e
