-- No line draws a block of more than 64 words.
use Rattle.std.proofs.Common.{◌≡◌, ℕ, true, false, cond, leb, List, [], ◌∷◌, Some, None, Ok, Err, codes, Option, Result, sym, subst, drop, inl, inr, arith}
use Rattle.std.specs.Str.{bytes_eq}
use Rattle.std.proofs.lemmas.Bool.{cases_Bool, leb-true, and_parts}
use Rattle.front_ends.specs.declared.kind.Kind.{Kind}
use Rattle.script.specs.declared.call.Call.{Call}
use Rattle.script.specs.declared.call.Call.TheVariants as call
use Rattle.script.specs.declared.call.Line.{Line}
use Rattle.script.specs.declared.call.Line.TheVariants as line
use Rattle.script.specs.declared.mistake.Mistake.{Mistake}
use Rattle.script.specs.declared.mistake.Mistake.TheVariants.{UnknownCall}
use Rattle.script.specs.declared.mistake.Place.TheVariants.{Signal, Offset, Value, Length}
use Rattle.script.specs.AndThen.{and_then}
use Rattle.script.specs.Calls.{signal_of, first_part, first_number, ended, gate_of, write_of, read_of, waiting_of, draw_of, waiting_or_draw_of, call_of}
use Rattle.script.specs.Lines.{board_of, line_of, parsed, ShortCall, ShortBlock}
use Rattle.script.specs.Numbers.{between, in_range, number_of}
use Rattle.script.specs.Parts.{parts, said}
use Rattle.script.specs.Readings.{readings_in}

abbrev Short : Result Call Mistake → Type 0
Short (Ok c) = ShortCall c
Short (Err e) = Unit {0}

short_then : {A : Type 0} (r : Result A Mistake) (f : A → Result Call Mistake) → ((a : A) → Short (f a)) → Short (and_then r f)
short_then (Ok a) f h = h a
short_then (Err e) f h = tt

gate_short : (ps : List (List ℕ)) → Short (gate_of ps)
gate_short ps = short_then (first_part Signal ps) _ (λ p. short_then (signal_of p) _ (λ s. short_then (readings_in (drop 1 ps)) _ (λ rs. tt)))

write_short : (ps : List (List ℕ)) → Short (write_of ps)
write_short ps = short_then (first_number Offset ps) _ (λ o. short_then (first_number Value (drop 1 ps)) _ (λ v. short_then (ended (drop 2 ps)) _ (λ e. tt)))

read_short : (ps : List (List ℕ)) → Short (read_of ps)
read_short ps = short_then (first_number Offset ps) _ (λ o. short_then (ended (drop 1 ps)) _ (λ e. tt))

waiting_short : (ps : List (List ℕ)) → Short (waiting_of ps)
waiting_short ps = short_then (ended ps) _ (λ e. tt)

-- a length in its range is short
length_short : (o : Option ℕ) (ps : List (List ℕ)) → Short (and_then (in_range Length o) (λ n. and_then (ended ps) (λ _. Ok (call.Draw n))))
length_short None ps = tt
length_short (Some n) ps =
    elim (cases_Bool (between 0 64 n)) [
      | inl e ↦ simp e (short_then (ended ps) (λ _. Ok (call.Draw n)) (λ _. leb-true n 64 (and_parts (leb 0 n) (leb n 64) e).1))
      | inr e ↦ simp e tt
    ]

draw_short : (ps : List (List ℕ)) → Short (draw_of ps)
draw_short [] = omega arith
draw_short (p ∷ ps) = length_short (number_of p) ps

waiting_or_draw_short : (n : List ℕ) (ps : List (List ℕ)) → Short (waiting_or_draw_of n ps)
waiting_or_draw_short n ps =
    elim (bytes_eq n (codes "waiting")) as (λ v. Short (cond v (waiting_of ps) (cond (bytes_eq n (codes "draw")) (draw_of ps) (Err UnknownCall)))) [
      | true ↦ waiting_short ps
      | false ↦ elim (bytes_eq n (codes "draw")) as (λ v. Short (cond v (draw_of ps) (Err UnknownCall))) [ true ↦ draw_short ps | false ↦ tt ]
    ]

call_short : (n : List ℕ) (ps : List (List ℕ)) → Short (call_of n ps)
call_short n ps =
    elim (bytes_eq n (codes "gate")) as (λ v. Short (cond v (gate_of ps) (cond (bytes_eq n (codes "write")) (write_of ps) (cond (bytes_eq n (codes "read")) (read_of ps) (waiting_or_draw_of n ps))))) [
      | true ↦ gate_short ps
      | false ↦
          elim (bytes_eq n (codes "write")) as (λ v. Short (cond v (write_of ps) (cond (bytes_eq n (codes "read")) (read_of ps) (waiting_or_draw_of n ps)))) [
            | true ↦ write_short ps
            | false ↦ elim (bytes_eq n (codes "read")) as (λ v. Short (cond v (read_of ps) (waiting_or_draw_of n ps))) [ true ↦ read_short ps | false ↦ waiting_or_draw_short n ps ]
          ]
    ]

line_short : (r : Result Call Mistake) → Short r → ShortBlock (and_then r (λ c. Ok (line.Call c)))
line_short (Ok c) h = h
line_short (Err e) h = tt

board_short : (r : Result Kind Mistake) → ShortBlock (and_then r (λ k. Ok (line.Board k)))
board_short (Ok k) = tt
board_short (Err e) = tt

parts_short : (ps : List (List ℕ)) → ShortBlock (line_of ps)
parts_short [] = tt
parts_short (p ∷ ps) =
    elim (bytes_eq p (codes "board")) as (λ v. ShortBlock (cond v (and_then (board_of ps) (λ k. Ok (line.Board k))) (and_then (call_of p ps) (λ c. Ok (line.Call c))))) [
      | true ↦ board_short (board_of ps)
      | false ↦ line_short (call_of p ps) (call_short p ps)
    ]

pub parsed_short : (bs : List ℕ) (r : Result Line Mistake) → r ≡ parsed bs → ShortBlock r
parsed_short bs r e = subst ShortBlock (sym e) (parts_short (parts (said bs)))
