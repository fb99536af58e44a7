-- The number of each refusal, and its cause in words.
use Rattle.std.specs.Prelude.{ℕ, List, ◌++◌, codes, decimal}
use Rattle.answers.specs.declared.refusal.Refusal.{Refusal}
use Rattle.answers.specs.declared.refusal.Refusal.TheVariants.{NoStation, ReadingCount, ReadingBits, UnknownSignal, NoRegister, Value, BlockShort, Veto, ClearData, Offline, Full, FastClear, NothingWaits}

abbrev pub number_of : Refusal → ℕ
number_of NoStation = 1
number_of ReadingCount = 2
number_of ReadingBits = 3
number_of UnknownSignal = 4
number_of NoRegister = 5
number_of Value = 6
number_of BlockShort = 8
number_of Veto = 21
number_of ClearData = 22
number_of Offline = 23
number_of Full = 24
number_of FastClear = 25
number_of NothingWaits = 26

abbrev pub cause_of : Refusal → List ℕ
cause_of NoStation = codes "no such station"
cause_of ReadingCount = codes "not one reading for each slot"
cause_of ReadingBits = codes "a reading exceeds 8191"
cause_of UnknownSignal = codes "the signal is not 0, 1 or 2"
cause_of NoRegister = codes "no such register for this access"
cause_of Value = codes "the value exceeds its limit or names a mode bit that the board lacks"
cause_of BlockShort = codes "the block is under 34 words"
cause_of Veto = codes "veto"
cause_of ClearData = codes "mode bit CLEAR DATA stands"
cause_of Offline = codes "mode bit OFFLINE stands"
cause_of Full = codes "32 events wait"
cause_of FastClear = codes "fast clear"
cause_of NothingWaits = codes "no event waits"

-- the number by which users know the refusal, and its cause
abbrev pub refused_text : Refusal → List ℕ
refused_text r = codes "refused " ++ (decimal (number_of r) ++ (codes ": " ++ cause_of r))
