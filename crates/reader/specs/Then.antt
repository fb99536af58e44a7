-- What `?` means: a result goes on where it is Ok, and its error goes up a layer where it is not.
-- std has it only as two words, result_flatten (result_map_both f up r), which say it less plainly.
use Rattle.std.specs.Prelude.{Ok, Err, Result}

abbrev pub then_by : {A B E F : Type 0} → Result A E → (E → F) → (A → Result B F) → Result B F
then_by (Ok a) up f = f a
then_by (Err e) up f = Err (up e)
