-- What a line says that is written plainly: its parts, with one space between each two.
use Rattle.std.specs.Prelude.{◌≡◌, ℕ, ◌<◌, false, List, [], ◌∷◌, ◌++◌, length, Result, ◌==◌}
use Rattle.std.specs.List.{AllByRecursion}
use Rattle.script.specs.declared.call.Line.{Line}
use Rattle.script.specs.declared.mistake.Mistake.{Mistake}
use Rattle.script.specs.Lines.{line_of}
use Rattle.script.specs.Parts.{gap}

-- no gap, no comment's sign, no carriage return
abbrev pub Inner : ℕ → Type 0
Inner c = (gap c ≡ false) × ((c == 35) ≡ false) × ((c == 13) ≡ false)

abbrev pub Part : List ℕ → Type 0
Part p = (0 < length p) × AllByRecursion Inner p

-- each part after a space
abbrev pub spaced : List (List ℕ) → List ℕ
spaced [] = []
spaced (p ∷ ps) = 32 ∷ (p ++ spaced ps)

abbrev pub plain_line : List (List ℕ) → List ℕ
plain_line [] = []
plain_line (p ∷ ps) = p ++ spaced ps

-- such a line says what its parts say
abbrev pub Plainly : List ℕ → Result Line Mistake → Type 0
Plainly line r = (ps : List (List ℕ)) → AllByRecursion Part ps → line ≡ plain_line ps → r ≡ line_of ps
