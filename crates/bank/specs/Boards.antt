-- A board: its front end, its settings, its counter of 24 bits, and the events that wait, first to be drawn first.
use Rattle.std.specs.Prelude.{◌≡◌, ℕ, ◌+◌, ◌%◌, ◌^◌, ◌<◌, ◌≤◌, true, false, List, [], ◌∷◌, ◌++◌, length, drop, replicate}
use Rattle.std.specs.List.{AllByRecursion}
use Rattle.front_ends.specs.Fronts as fronts
use Rattle.front_ends.specs.Kinds.{time}
use Rattle.words.specs.Events as events
use Rattle.settings.specs.declared.mode.Mode.{Mode}
use Rattle.settings.specs.declared.mode.ModeBit.TheVariants.{AutoIncr}
use Rattle.settings.specs.declared.settings.Settings.{Settings}
use Rattle.settings.specs.declared.threshold.Threshold.{Threshold}
use Rattle.settings.specs.Modes.{stands}
use Rattle.settings.specs.Thresholds as thresholds

pub record Board : Type 0 where
  pub front : fronts.Front
  pub settings : Settings
  pub counter : ℕ
  pub waiting : List events.Event

-- the mode at power-on: AUTO INCR, SLIDE ENABLE and ALL TRG
abbrev pub power_on_mode : Mode
power_on_mode = record { word = 0x4880 }

abbrev pub no_threshold : Threshold
no_threshold = record { level = 0; kill = false }

abbrev pub power_on_settings : Settings
power_on_settings = record { mode = power_on_mode; geo = 31; crate_number = 0; thresholds = replicate 32 no_threshold }

-- a board of that front end, switched on
abbrev pub power_on : fronts.Front → Board
power_on f = record { front = f; settings = power_on_settings; counter = 0; waiting = [] }

-- what stands at no station
abbrev pub no_board : Board
no_board = power_on time

-- the counter after one more gate
abbrev pub counted : ℕ → ℕ
counted n = (n + 1) % 2 ^ 24

-- what a call does to the events that wait; a draw takes the first, a skip strikes it
pub data Effect : Type 0 where
  none : Effect
  stores : events.Event → Effect
  takes_first : Effect
  strikes_first : Effect
  strikes_all : Effect

-- the waiting events after it. They may be held with a mark that tells equal ones apart.
abbrev pub after : {A : Type 0} → (events.Event → A) → Effect → List A → List A
after mark none ws = ws
after mark (stores e) ws = ws ++ (mark e ∷ [])
after mark takes_first ws = drop 1 ws
after mark strikes_first ws = drop 1 ws
after mark strikes_all ws = []

-- what a call leaves of the settings, the counter and the events
pub record Change : Type 0 where
  pub settings : Settings
  pub counter : ℕ
  pub effect : Effect

abbrev pub changed_by : Change → Board → Board
changed_by c b = record b { settings = c.settings; counter = c.counter; waiting = after (λ e. e) c.effect b.waiting }

-- each setting fits its register, no slot lacks a threshold, AUTO INCR stands, and every waiting event is lawful
pub record LawfulBoard (b : Board) : Type 0 where
  pub front_lawful : fronts.Lawful b.front
  pub geo_fits : b.settings.geo < 32
  pub crate_fits : b.settings.crate_number < 256
  pub mode_fits : b.settings.mode.word < 2 ^ 16
  pub thresholds_there : length b.settings.thresholds ≡ 32
  pub levels_in_range : thresholds.levels_in_range b.settings.thresholds ≡ true
  pub counter_fits : b.counter < 2 ^ 24
  pub auto_incr : stands AutoIncr b.settings.mode ≡ true
  pub few : length b.waiting ≤ 32
  pub events_lawful : AllByRecursion events.Lawful b.waiting
