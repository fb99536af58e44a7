-- A write: what each register does with a value.
use Rattle.std.specs.Prelude.{ℕ, Bool, cond, List, [], ◌∷◌, Some, None, Ok, Err, Option, Result, nat_le, slice_set}
use Rattle.front_ends.specs.Fronts.{slot_of}
use Rattle.words.specs.Events.{Event}
use Rattle.bits.specs.Bits.{has}
use Rattle.settings.specs.declared.mode.Mode.{Mode}
use Rattle.settings.specs.declared.mode.ModeBit.TheVariants as mode
use Rattle.settings.specs.declared.register.Register.{Register}
use Rattle.settings.specs.declared.register.Register.TheVariants as register
use Rattle.settings.specs.declared.settings.Settings.{Settings}
use Rattle.settings.specs.declared.threshold.Threshold.{Threshold}
use Rattle.settings.specs.Modes.{place, stands, carried, names_only, with_set, with_cleared}
use Rattle.settings.specs.Registers.{register_at}
use Rattle.settings.specs.Thresholds.{threshold_of}
use Rattle.answers.specs.declared.refusal.Refusal.{Refusal}
use Rattle.answers.specs.declared.refusal.Refusal.TheVariants.{NoRegister, Value, NothingWaits}
use Rattle.bank.specs.Boards.{Board, Change, changed_by, power_on_mode}
use Rattle.bank.specs.Boards.Effect.{none, strikes_first, strikes_all}

-- settings with one part changed
abbrev pub with_geo : ℕ → Settings → Settings
with_geo v s = record s { geo = v }

abbrev pub with_crate : ℕ → Settings → Settings
with_crate v s = record s { crate_number = v }

abbrev pub with_mode : Mode → Settings → Settings
with_mode m s = record s { mode = m }

abbrev pub with_threshold : ℕ → Threshold → Settings → Settings
with_threshold i t s = record s { thresholds = slice_set s.thresholds i t }

-- only the settings change
abbrev pub sets : Settings → Board → Change
sets s b = record { settings = s; counter = b.counter; effect = none }

-- the value names only mode bits that the board carries
abbrev pub names_carried : ℕ → Board → Bool
names_carried v b = names_only (carried b.front.carries_step) v

-- The bits are set. Where the value names CLEAR DATA, all waiting events are struck, and then the counter becomes 0
-- if ALL TRG is 0.
abbrev pub set_mode : ℕ → Mode → Board → Change
set_mode v m b =
    cond (has v (place mode.ClearData))
    (record { settings = with_mode m b.settings; counter = cond (stands mode.AllTrg m) b.counter 0; effect = strikes_all })
    (sets (with_mode m b.settings) b)

-- GEO and the thresholds survive
abbrev pub software_reset : Board → Change
software_reset b = record { settings = with_crate 0 (with_mode power_on_mode b.settings); counter = 0; effect = strikes_all }

abbrev pub skip : Board → List Event → Result Change Refusal
skip b [] = Err NothingWaits
skip b (e ∷ es) = Ok (record { settings = b.settings; counter = b.counter; effect = strikes_first })

abbrev pub set_threshold : Board → Option ℕ → Option Threshold → Result Change Refusal
set_threshold b None t = Err NoRegister
set_threshold b (Some i) None = Err Value
set_threshold b (Some i) (Some t) = Ok (sets (with_threshold i t b.settings) b)

abbrev pub if_fits : Bool → Change → Result Change Refusal
if_fits ok c = cond ok (Ok c) (Err Value)

abbrev pub write_register : ℕ → Board → Register → Result Change Refusal
write_register v b register.Geo = if_fits (nat_le v 31) (sets (with_geo v b.settings) b)
write_register v b register.Status = Err NoRegister
write_register v b register.SoftwareReset = Ok (software_reset b)
write_register v b register.CounterLow = Err NoRegister
write_register v b register.CounterHigh = Err NoRegister
write_register v b register.Skip = skip b b.waiting
write_register v b register.Mode = if_fits (names_carried v b) (set_mode v (with_set b.settings.mode v) b)
write_register v b register.ModeClear = if_fits (names_carried v b) (sets (with_mode (with_cleared b.settings.mode v) b.settings) b)
write_register v b register.Crate = if_fits (nat_le v 255) (sets (with_crate v b.settings) b)
write_register v b register.CounterReset = Ok (record { settings = b.settings; counter = 0; effect = none })
write_register v b (register.Threshold tag) = set_threshold b (slot_of b.front tag) (threshold_of v)

abbrev pub write_at : ℕ → Board → Option Register → Result Change Refusal
write_at v b None = Err NoRegister
write_at v b (Some x) = write_register v b x

abbrev pub answer_of : Result Change Refusal → Result (Unit {0}) Refusal
answer_of (Ok c) = Ok tt
answer_of (Err e) = Err e

-- a refusal changes nothing
abbrev pub left_by : Result Change Refusal → Board → Board
left_by (Ok c) b = changed_by c b
left_by (Err e) b = b

abbrev pub write_answer : ℕ → ℕ → Board → Result (Unit {0}) Refusal
write_answer offset v b = answer_of (write_at v b (register_at offset))

abbrev pub written : ℕ → ℕ → Board → Board
written offset v b = left_by (write_at v b (register_at offset)) b
