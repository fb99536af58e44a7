-- Numerals of any length, and the range of each number.
use Rattle.std.specs.Prelude.{ℕ, ◌+◌, ◌-◌, ◌*◌, ◌^◌, min, Bool, if◌then◌else◌, ◌&&◌, List, [], ◌∷◌, drop, Some, None, Ok, Err, Option, Result, option_map, ◌==◌, nat_le, nat_lt, slice_index}
use Rattle.std.specs.Char.{digit_value}
use Rattle.script.specs.declared.mistake.Place.{Place}
use Rattle.script.specs.declared.mistake.Place.TheVariants.{Signal, Reading, Times, Offset, Value, Length}
use Rattle.script.specs.declared.mistake.Flaw.TheVariants.{NoNumber, OutOfRange}
use Rattle.script.specs.declared.mistake.Mistake.{Mistake}
use Rattle.script.specs.declared.mistake.Mistake.TheVariants.{Number}

abbrev pub between : ℕ → ℕ → ℕ → Bool
between a b c = nat_le a c && nat_le c b

-- digits in a base, of either case, after the number n
abbrev pub numeral : ℕ → ℕ → List ℕ → Option ℕ
numeral base n [] = Some n
numeral base n (c ∷ cs) = if nat_lt (digit_value c) base then numeral base (n * base + digit_value c) cs else None

-- one digit at least
abbrev pub numeral_of : ℕ → List ℕ → Option ℕ
numeral_of base [] = None
numeral_of base (c ∷ cs) = numeral base 0 (c ∷ cs)

abbrev pub hexadecimal : List ℕ → Bool
hexadecimal bs = slice_index bs 0 == 48 && slice_index bs 1 == 120

-- hexadecimal after 0x, decimal without
abbrev pub number_of : List ℕ → Option ℕ
number_of bs = if hexadecimal bs then numeral_of 16 (drop 2 bs) else numeral_of 10 bs

-- a number past every range is as good as any other such
abbrev pub saturated : Option ℕ → Option ℕ
saturated o = option_map (λ n. min n (2 ^ 32 - 1)) o

abbrev pub least_of : Place → ℕ
least_of Signal = 0
least_of Reading = 0
least_of Times = 1
least_of Offset = 0
least_of Value = 0
least_of Length = 0

abbrev pub most_of : Place → ℕ
most_of Signal = 255
most_of Reading = 65535
most_of Times = 64
most_of Offset = 65535
most_of Value = 65535
most_of Length = 64

abbrev pub in_range : Place → Option ℕ → Result ℕ Mistake
in_range p None = Err (Number p NoNumber)
in_range p (Some n) = if between (least_of p) (most_of p) n then Ok n else Err (Number p OutOfRange)

abbrev pub number_in : Place → List ℕ → Result ℕ Mistake
number_in p bs = in_range p (number_of bs)
