-- What is written to the front of a lent space.
use Rattle.std.specs.Prelude.{List, ◌++◌, length, drop}

-- xs at the front, the rest of the space as it was
abbrev pub onto : {A : Type 0} → List A → List A → List A
onto xs space = xs ++ drop (length xs) space
