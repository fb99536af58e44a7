-- A read: what each register shows.
use Rattle.std.specs.Prelude.{ℕ, ◌+◌, ◌/◌, ◌%◌, cond, ◌||◌, length, Some, None, Ok, Err, Option, Result, nat_le, nat_lt, slice_index_or}
use Rattle.front_ends.specs.Fronts.{slot_of}
use Rattle.settings.specs.declared.mode.ModeBit.TheVariants as mode
use Rattle.settings.specs.declared.register.Register.{Register}
use Rattle.settings.specs.declared.register.Register.TheVariants as register
use Rattle.settings.specs.Modes.{stands}
use Rattle.settings.specs.Registers.{register_at}
use Rattle.settings.specs.Thresholds.{value_of}
use Rattle.answers.specs.declared.refusal.Refusal.{Refusal}
use Rattle.answers.specs.declared.refusal.Refusal.TheVariants.{NoRegister}
use Rattle.bank.specs.Boards.{Board, no_threshold}

-- bit 0 if an event waits; bit 2, busy, if 32 wait or CLEAR DATA stands
abbrev pub status : Board → ℕ
status b =
    cond (nat_lt 0 (length b.waiting)) 1 0
    + cond (nat_le 32 (length b.waiting) || stands mode.ClearData b.settings.mode) 4 0

abbrev pub read_threshold : Board → Option ℕ → Result ℕ Refusal
read_threshold b None = Err NoRegister
read_threshold b (Some i) = Ok (value_of (slice_index_or b.settings.thresholds i no_threshold))

abbrev pub read_register : Board → Register → Result ℕ Refusal
read_register b register.Geo = Ok b.settings.geo
read_register b register.Status = Ok (status b)
read_register b register.SoftwareReset = Err NoRegister
read_register b register.CounterLow = Ok (b.counter % 65536)
read_register b register.CounterHigh = Ok (b.counter / 65536)
read_register b register.Skip = Err NoRegister
read_register b register.Mode = Ok b.settings.mode.word
read_register b register.ModeClear = Err NoRegister
read_register b register.Crate = Ok b.settings.crate_number
read_register b register.CounterReset = Err NoRegister
read_register b (register.Threshold tag) = read_threshold b (slot_of b.front tag)

abbrev pub read_at : Board → Option Register → Result ℕ Refusal
read_at b None = Err NoRegister
read_at b (Some x) = read_register b x

abbrev pub read_answer : ℕ → Board → Result ℕ Refusal
read_answer offset b = read_at b (register_at offset)
