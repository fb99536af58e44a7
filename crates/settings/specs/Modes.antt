-- The mode word: its bits, and which of them a board carries.
use Rattle.std.specs.Prelude.{◌≡◌, ℕ, zero, suc, ◌-◌, Bool, true, if◌then◌else◌, not, ◌&&◌, ◌||◌, List, [], ◌∷◌, ◌==◌, bit_and, bit_or}
use Rattle.std.specs.List.{list_any}
use Rattle.front_ends.specs.declared.step.Step.{Step}
use Rattle.front_ends.specs.declared.step.Step.TheVariants.{Fine, Coarse}
use Rattle.bits.specs.Bits.{has}
use Rattle.settings.specs.declared.mode.Mode.{Mode}
use Rattle.settings.specs.declared.mode.ModeBit.{ModeBit}
use Rattle.settings.specs.declared.mode.ModeBit.TheVariants.{Offline, ClearData, OverRange, LowThreshold, SlideEnable, AutoIncr, Empty, AllTrg}

-- the place of a bit in the mode word
abbrev pub place : ModeBit → ℕ
place Offline = 1
place ClearData = 2
place OverRange = 3
place LowThreshold = 4
place SlideEnable = 7
place ModeBit.Step = 8
place AutoIncr = 11
place Empty = 12
place AllTrg = 14

abbrev pub stands : ModeBit → Mode → Bool
stands b m = has m.word (place b)

abbrev pub step_of : Mode → Step
step_of m = if stands ModeBit.Step m then Fine else Coarse

-- the bits that can be set and cleared; STEP on boards that have it
abbrev pub carried : Bool → List ModeBit
carried step =
    Offline ∷ ClearData ∷ OverRange ∷ LowThreshold ∷ SlideEnable ∷ Empty ∷ AllTrg ∷ (if step then ModeBit.Step ∷ [] else [])

-- bit k is one of these
abbrev pub among : List ModeBit → ℕ → Bool
among bs k = list_any (λ b. place b == k) bs

-- of the lowest n bits of the value, each that is 1 is one of these
abbrev pub names_only_below : ℕ → List ModeBit → ℕ → Bool
names_only_below zero bs v = true
names_only_below (suc n) bs v = (not (has v n) || among bs n) && names_only_below n bs v

-- each bit that is 1 in a value of 16 bits is one of these
unfoldable pub names_only : List ModeBit → ℕ → Bool
names_only bs v = names_only_below 16 bs v

abbrev pub with_set : Mode → ℕ → Mode
with_set m v = record { word = bit_or m.word v }

abbrev pub with_cleared : Mode → ℕ → Mode
with_cleared m v = record { word = bit_and m.word (65535 - v) }

-- what setting and clearing do to each bit
abbrev pub SetBits : Mode → ℕ → Mode → Type 0
SetBits m v r = (k : ℕ) → has r.word k ≡ (has m.word k || has v k)

abbrev pub ClearedBits : Mode → ℕ → Mode → Type 0
ClearedBits m v r = (k : ℕ) → has r.word k ≡ (has m.word k && not (has v k))
