use Rattle.std.proofs.Common.{◌∙◌}
use Rattle.front_ends.specs.Kinds.{time_tags}
use Rattle.front_ends.specs.KindLaws.{time_slot}
use Rattle.front_ends.specs.Slots.{stands_at}
use Rattle.front_ends.proofs.time.TimeFrontEnd.slot.Goals as goal

pub returns : goal.returns
returns c =
    let e = c.tag.ensures ∙ time_slot c.args.tag in
    record { is = e; exact = stands_at c.args.tag time_tags _ e }
