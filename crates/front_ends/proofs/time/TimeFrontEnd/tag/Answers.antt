use Rattle.std.proofs.Common.{Some, sym, ap}
use Rattle.std.proofs.lemmas.Bool.{lt-ltb}
use Rattle.front_ends.specs.KindLaws.{time_same}
use Rattle.front_ends.proofs.time.TimeFrontEnd.tag.Goals as goal

pub returns-then-slot-lt32 : goal.returns-then-slot-lt32
returns-then-slot-lt32 c = rw (lt-ltb c.args.slot 32 c.if-slot-lt32.true) (ap (λ s. Some s) (sym (time_same c.args.slot c.if-slot-lt32.true)))
