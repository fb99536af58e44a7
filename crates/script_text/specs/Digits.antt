-- Hexadecimal numbers of a fixed length.
use Rattle.std.specs.Prelude.{ℕ, ◌+◌, ◌/◌, ◌%◌, ◌^◌, if◌then◌else◌, List, [], ◌∷◌, ◌++◌, codes, nat_lt, flat_map}

-- 0 to 9, A to F
abbrev pub digit : ℕ → ℕ
digit d = if nat_lt d 10 then 48 + d else 55 + d

abbrev pub two_digits : ℕ → List ℕ
two_digits n = digit (n / 16) ∷ digit (n % 16) ∷ []

abbrev pub four_digits : ℕ → List ℕ
four_digits n = codes "0x" ++ two_digits (n / 256) ++ two_digits (n % 256)

abbrev pub eight_digits : ℕ → List ℕ
eight_digits n = codes "0x" ++ two_digits (n / 2 ^ 24) ++ two_digits (n / 65536 % 256) ++ two_digits (n / 256 % 256) ++ two_digits (n % 256)

-- the bytes of a number, the high byte first
abbrev pub hex_text : List ℕ → List ℕ
hex_text bs = codes "0x" ++ flat_map two_digits bs
