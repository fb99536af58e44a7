use Rattle.std.proofs.Common.{◌∙◌}
use Rattle.std.specs.Slice.{IsItemAt}
use Rattle.front_ends.specs.Kinds.{charge_tags}
use Rattle.front_ends.proofs.Lookups.{looked_up}
use Rattle.front_ends.proofs.charge.ChargeFrontEnd.tag.Goals as goal

pub returns : goal.returns
returns c =
    let h : IsItemAt charge_tags c.args.slot c.get.result = rw c.from.ensures at c.get.ensures.lookup in
    c.copied.ensures ∙ looked_up charge_tags c.args.slot c.get.result h
