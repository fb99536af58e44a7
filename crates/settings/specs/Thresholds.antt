-- A threshold and its register's value: bits 7 to 0 are the level, bit 8 is KILL.
use Rattle.std.specs.Prelude.{◌≡◌, ℕ, ◌+◌, ◌*◌, ◌%◌, Bool, if◌then◌else◌, List, Some, None, Ok, Option, Result, nat_le, nat_lt}
use Rattle.std.specs.List.{list_all}
use Rattle.answers.specs.declared.refusal.Refusal.{Refusal}
use Rattle.settings.specs.declared.threshold.Threshold.{Threshold}

abbrev pub threshold_of : ℕ → Option Threshold
threshold_of v = if nat_le v 511 then Some (record { level = v % 256; kill = nat_le 256 v }) else None

abbrev pub value_of : Threshold → ℕ
value_of t = t.level + 256 * (if t.kill then 1 else 0)

-- each level has 8 bits
abbrev pub levels_in_range : List Threshold → Bool
levels_in_range ts = list_all (λ t. nat_lt t.level 256) ts

-- what was written is read back
abbrev pub ThresholdAgain : ℕ → Result Threshold Refusal → Type 0
ThresholdAgain v r = (t : Threshold) → r ≡ Ok t → value_of t ≡ v
