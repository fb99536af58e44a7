-- Calls and their arguments.
use Rattle.std.specs.Prelude.{ℕ, if◌then◌else◌, List, [], ◌∷◌, drop, Some, None, Ok, Err, codes, Option, Result}
use Rattle.std.specs.Borrow.{Bor}
use Rattle.std.specs.Str.{bytes_eq}
use Rattle.script.specs.declared.call.Call.{Call}
use Rattle.script.specs.declared.call.Call.TheVariants as call
use Rattle.script.specs.declared.mistake.Flaw.TheVariants.{Missing}
use Rattle.script.specs.declared.mistake.Mistake.{Mistake}
use Rattle.script.specs.declared.mistake.Mistake.TheVariants.{Number, Surplus, UnknownCall}
use Rattle.script.specs.declared.mistake.Place.{Place}
use Rattle.script.specs.declared.mistake.Place.TheVariants.{Signal, Offset, Value, Length}
use Rattle.script.specs.Numbers.{number_in}
use Rattle.script.specs.Readings.{readings_in}
use Rattle.script.specs.AndThen.{and_then}

abbrev pub named_signal : List ℕ → Option ℕ
named_signal bs = if bytes_eq bs (codes "none") then Some 0 else if bytes_eq bs (codes "veto") then Some 1 else if bytes_eq bs (codes "clear") then Some 2 else None

abbrev pub named_or : Option ℕ → Result ℕ Mistake → Result ℕ Mistake
named_or None r = r
named_or (Some s) r = Ok s

-- by name or by number
abbrev pub signal_of : List ℕ → Result ℕ Mistake
signal_of bs = named_or (named_signal bs) (number_in Signal bs)

-- a part that has to stand first
abbrev pub first_part : Place → List (List ℕ) → Result (List ℕ) Mistake
first_part p [] = Err (Number p Missing)
first_part p (bs ∷ ps) = Ok bs

abbrev pub part_of : Result (Bor (List ℕ)) Mistake → Result (List ℕ) Mistake
part_of r = and_then r (λ b. Ok b.now)

-- a number that has to stand first
abbrev pub first_number : Place → List (List ℕ) → Result ℕ Mistake
first_number p ps = and_then (first_part p ps) (λ bs. number_in p bs)

-- nothing is left
abbrev pub ended : List (List ℕ) → Result (Unit {0}) Mistake
ended [] = Ok tt
ended (p ∷ ps) = Err Surplus

abbrev pub gate_of : List (List ℕ) → Result Call Mistake
gate_of ps =
    and_then (first_part Signal ps) (λ p. and_then (signal_of p) (λ s. and_then (readings_in (drop 1 ps)) (λ rs. Ok (call.Gate s rs))))

abbrev pub write_of : List (List ℕ) → Result Call Mistake
write_of ps =
    and_then (first_number Offset ps) (λ o. and_then (first_number Value (drop 1 ps)) (λ v. and_then (ended (drop 2 ps)) (λ _. Ok (call.Write o v))))

abbrev pub read_of : List (List ℕ) → Result Call Mistake
read_of ps = and_then (first_number Offset ps) (λ o. and_then (ended (drop 1 ps)) (λ _. Ok (call.Read o)))

abbrev pub waiting_of : List (List ℕ) → Result Call Mistake
waiting_of ps = and_then (ended ps) (λ _. Ok call.Waiting)

-- 34 words if no length is given
abbrev pub draw_of : List (List ℕ) → Result Call Mistake
draw_of [] = Ok (call.Draw 34)
draw_of (p ∷ ps) = and_then (number_in Length p) (λ n. and_then (ended ps) (λ _. Ok (call.Draw n)))

-- the calls of events that wait
abbrev pub waiting_or_draw_of : List ℕ → List (List ℕ) → Result Call Mistake
waiting_or_draw_of name ps = if bytes_eq name (codes "waiting") then waiting_of ps else if bytes_eq name (codes "draw") then draw_of ps else Err UnknownCall

-- the call of that name with those arguments
abbrev pub call_of : List ℕ → List (List ℕ) → Result Call Mistake
call_of name ps =
    if bytes_eq name (codes "gate") then gate_of ps
    else if bytes_eq name (codes "write") then write_of ps
    else if bytes_eq name (codes "read") then read_of ps
    else waiting_or_draw_of name ps
