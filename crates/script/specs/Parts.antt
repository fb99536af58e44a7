-- A line and its parts.
use Rattle.std.specs.Prelude.{ℕ, ◌-◌, ◌+◌, Bool, true, false, if◌then◌else◌, not, ◌||◌, List, [], ◌∷◌, length, take, drop, filter, position, Option, option_map, ◌==◌, slice_index}
use Rattle.std.specs.Borrow.{Bor}
use Rattle.std.specs.List.{before_first, slice_split}

-- a space or a tab
abbrev pub gap : ℕ → Bool
gap c = c == 32 || c == 9

-- a byte of a part
abbrev pub solid : ℕ → Bool
solid c = not (gap c)

abbrev pub filled : List ℕ → Bool
filled [] = false
filled (c ∷ cs) = true

-- the runs of bytes between gaps, each as long as it can be
abbrev pub parts : List ℕ → List (List ℕ)
parts bs = filter filled (slice_split gap bs)

-- what stands before the first such byte, and what stands behind it
abbrev pub split_once : ℕ → List ℕ → Option (List ℕ × List ℕ)
split_once at bs = option_map (λ i. (take i bs, drop (i + 1) bs)) (position (λ c. c == at) bs)

abbrev pub pair_of : Option (Bor (List ℕ) × Bor (List ℕ)) → Option (List ℕ × List ℕ)
pair_of o = option_map (λ p. (p.0.now, p.1.now)) o

-- without the carriage return at the end
abbrev pub unreturned : List ℕ → List ℕ
unreturned line = if slice_index line (length line - 1) == 13 then take (length line - 1) line else line

-- up to the comment
abbrev pub said : List ℕ → List ℕ
said line = before_first (λ c. c == 35) (unreturned line)
