-- The front end of each kind that a user can name.
use Rattle.std.specs.Prelude.{ℕ, List, codes}
use Rattle.front_ends.specs.declared.kind.Kind.{Kind}
use Rattle.front_ends.specs.declared.kind.Kind.TheVariants.{Time, Charge}
use Rattle.front_ends.specs.Fronts.{Front, Lawful}
use Rattle.front_ends.specs.Kinds.{time, charge}
use Rattle.front_ends.specs.KindLaws.{time_lawful, charge_lawful}

abbrev pub front_of : Kind → Front
front_of Time = time
front_of Charge = charge

-- each kind keeps the laws of a front end
pub front_of_lawful : (k : Kind) → Lawful (front_of k)
front_of_lawful Time = time_lawful
front_of_lawful Charge = charge_lawful

abbrev pub name_of : Kind → List ℕ
name_of Time = codes "time"
name_of Charge = codes "charge"
