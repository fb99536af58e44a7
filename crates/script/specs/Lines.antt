-- Lines of a script.
use Rattle.std.specs.Prelude.{ℕ, ◌≤◌, if◌then◌else◌, List, [], ◌∷◌, Ok, Err, codes, Result}
use Rattle.std.specs.Str.{bytes_eq}
use Rattle.script.specs.declared.call.Call.{Call}
use Rattle.script.specs.declared.call.Call.TheVariants as call
use Rattle.front_ends.specs.declared.kind.Kind.{Kind}
use Rattle.front_ends.specs.declared.kind.Kind.TheVariants.{Time, Charge}
use Rattle.script.specs.declared.call.Line.{Line}
use Rattle.script.specs.declared.call.Line.TheVariants as line
use Rattle.script.specs.declared.mistake.Mistake.{Mistake}
use Rattle.script.specs.declared.mistake.Mistake.TheVariants.{BoardKind}
use Rattle.script.specs.Calls.{ended, call_of}
use Rattle.script.specs.Parts.{parts, said}
use Rattle.script.specs.AndThen.{and_then}

abbrev pub kind_of : List ℕ → Result Kind Mistake
kind_of bs = if bytes_eq bs (codes "time") then Ok Time else if bytes_eq bs (codes "charge") then Ok Charge else Err BoardKind

abbrev pub board_of : List (List ℕ) → Result Kind Mistake
board_of [] = Err BoardKind
board_of (p ∷ ps) = and_then (kind_of p) (λ k. and_then (ended ps) (λ _. Ok k))

abbrev pub line_of : List (List ℕ) → Result Line Mistake
line_of [] = Ok line.Blank
line_of (p ∷ ps) = if bytes_eq p (codes "board") then and_then (board_of ps) (λ k. Ok (line.Board k)) else and_then (call_of p ps) (λ c. Ok (line.Call c))

-- what a line says
abbrev pub parsed : List ℕ → Result Line Mistake
parsed bs = line_of (parts (said bs))

abbrev pub ShortCall : Call → Type 0
ShortCall (call.Gate s rs) = Unit {0}
ShortCall (call.Write o v) = Unit {0}
ShortCall (call.Read o) = Unit {0}
ShortCall call.Waiting = Unit {0}
ShortCall (call.Draw n) = n ≤ 64

-- no block of more than 64 words is drawn
abbrev pub ShortBlock : Result Line Mistake → Type 0
ShortBlock (Ok line.Blank) = Unit {0}
ShortBlock (Ok (line.Board k)) = Unit {0}
ShortBlock (Ok (line.Call c)) = ShortCall c
ShortBlock (Err e) = Unit {0}
