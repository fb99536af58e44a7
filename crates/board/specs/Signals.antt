-- The signals of a gate, by their numbers.
use Rattle.std.specs.Prelude.{◌≡◌, ℕ, ◌<◌, Ok, Err, Result}
use Rattle.answers.specs.declared.refusal.Refusal.{Refusal}
use Rattle.answers.specs.declared.refusal.Refusal.TheVariants.{UnknownSignal}
use Rattle.board.specs.declared.signal.Signal.{Signal}
use Rattle.board.specs.declared.signal.Signal.TheVariants as signal

abbrev pub number_of : Signal → ℕ
number_of signal.None = 0
number_of signal.Veto = 1
number_of signal.FastClear = 2

-- the signal of a number, and refused exactly where no signal has it
abbrev pub SignalIs : ℕ → Result Signal Refusal → Type 0
SignalIs n (Ok s) = number_of s ≡ n
SignalIs n (Err e) = (e ≡ UnknownSignal) × (2 < n)
