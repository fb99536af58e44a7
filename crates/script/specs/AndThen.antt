-- What `?` means: a result goes on where it is Ok. (std has the word for an Option alone, and scripts do not stand on the reader, whose `?`
-- changes the error too.)
use Rattle.std.specs.Prelude.{Ok, Err, Result}

abbrev pub and_then : {A B E : Type 0} → Result A E → (A → Result B E) → Result B E
and_then (Ok a) f = f a
and_then (Err e) f = Err e
