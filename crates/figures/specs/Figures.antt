-- Worked examples, as one fact: a new one is a new field.
use Rattle.std.specs.Prelude.{◌≡◌, ℕ, Bool, true, false, List, [], ◌∷◌, map, replicate, Some, Ok, Err, Option, nat_lt}
use Rattle.front_ends.specs.declared.step.Step.TheVariants.{Coarse, Fine}
use Rattle.front_ends.specs.Kinds.{charge}
use Rattle.words.specs.declared.fault.Layer.TheVariants as layer
use Rattle.words.specs.declared.word.Reading.{Reading}
use Rattle.words.specs.Events.{Event, Lawful, data_words, words}
use Rattle.event_records.specs.Records.{records}
use Rattle.reader.specs.declared.fault.EventFault.TheVariants.{Twice}
use Rattle.reader.specs.declared.fault.RunFault.{RunFault}
use Rattle.reader.specs.declared.fault.RunFault.TheVariants as run
use Rattle.reader.specs.declared.fault.Refusal.TheVariants.{Fault}
use Rattle.reader.specs.Events.{spot_at}
use Rattle.reader.specs.Faults.{run_report}
use Rattle.reader.specs.Items.{event}
use Rattle.reader.specs.Laws.{Answer}
use Rattle.reader.specs.Runs.{read_at}
use Rattle.settings.specs.declared.judge.Judged.{Judged}
use Rattle.settings.specs.declared.mode.Mode.{Mode}
use Rattle.settings.specs.declared.threshold.Threshold.{Threshold}
use Rattle.settings.specs.Judging.{judged}
use Rattle.bank.specs.Boards.{Board}
use Rattle.bank.specs.Gates.{gated}

-- a reading that neither overflowed nor was under threshold
abbrev pub plain : ℕ → ℕ → Reading
plain tag count = record { tag = tag; under = false; over = false; count = count }

abbrev pub overflowed : ℕ → ℕ → Reading
overflowed tag count = record { tag = tag; under = false; over = true; count = count }

-- GEO 3, crate 5, number 7
abbrev pub event_with : List Reading → Event
event_with rs = record { geo = 3; crate = 5; number = 7; readings = rs }

abbrev pub two_readings : Event
two_readings = event_with (plain 4 100 ∷ plain 5 800 ∷ [])

abbrev pub one_overflowed : Event
one_overflowed = event_with (plain 4 100 ∷ overflowed 5 4095 ∷ [])

abbrev pub no_readings : Event
no_readings = event_with []

-- a header that tells of two readings, and the same tag twice
abbrev pub tag_twice : List ℕ
tag_twice = 0x1A050200 ∷ 0x18040064 ∷ 0x18040064 ∷ []

abbrev pub twice : RunFault
twice = run.Event (Twice (spot_at 0 2))

-- a charge board's threshold 7, with LOW THRESHOLD 1 and so with STEP 0 or 1
abbrev pub level_7 : Threshold
level_7 = record { level = 7; kill = false }

abbrev pub coarse : Mode
coarse = record { word = 0x4890 }

abbrev pub fine : Mode
fine = record { word = 0x4990 }

-- how a reading that is that count is judged
abbrev pub judged_as : Bool → ℕ → Option Judged
judged_as under count = Some (record { under = under; over = false; count = count })

-- GEO 3, crate 5, EMPTY 1, the last number of the counter; every threshold is over every reading
abbrev pub last_number : Board
last_number =
    record {
      front = charge;
      settings = record { mode = record { word = 0x5880 }; geo = 3; crate_number = 5; thresholds = replicate 32 level_7 };
      counter = 16777215;
      waiting = [];
    }

abbrev pub after_last : Board
after_last = gated 0 (replicate 32 0) last_number

pub record Figures : Type 0 where
  pub words_of_two : words two_readings ≡ 0x1A050200 ∷ 0x18040064 ∷ 0x18050320 ∷ 0x1C000007 ∷ []
  pub records_of_two : records two_readings ≡ 0x00 ∷ 0x00 ∷ 0x07 ∷ 0x03 ∷ 0x04 ∷ 0x00 ∷ 0x00 ∷ 0x64 ∷ 0x00 ∷ 0x00 ∷ 0x07 ∷ 0x03 ∷ 0x05 ∷ 0x00 ∷ 0x03 ∷ 0x20 ∷ []
  pub words_of_dash : words one_overflowed ≡ 0x1A050200 ∷ 0x18040064 ∷ 0x18051FFF ∷ 0x1C000007 ∷ []
  pub records_of_dash : records one_overflowed ≡ 0x00 ∷ 0x00 ∷ 0x07 ∷ 0x03 ∷ 0x04 ∷ 0x00 ∷ 0x00 ∷ 0x64 ∷ 0x00 ∷ 0x00 ∷ 0x07 ∷ 0x03 ∷ 0x05 ∷ 0x02 ∷ 0xFF ∷ 0xFF ∷ []
  pub words_of_none : words no_readings ≡ 0x1A050000 ∷ 0x1C000007 ∷ []
  pub records_of_none : records no_readings ≡ 0x00 ∷ 0x00 ∷ 0x07 ∷ 0x03 ∷ 0xFF ∷ 0x04 ∷ 0xFF ∷ 0xFF ∷ []
  -- each is a lawful event, and the reader answers it
  pub two_lawful : Lawful two_readings
  pub dash_lawful : Lawful one_overflowed
  pub none_lawful : Lawful no_readings
  pub two_read : ◌≡◌ {A = Answer} (read_at (words two_readings) 0) (Ok (Some (event two_readings (data_words two_readings), 4)))
  pub none_read : ◌≡◌ {A = Answer} (read_at (words no_readings) 0) (Ok (Some (event no_readings [], 2)))
  pub repeated_tag : ◌≡◌ {A = Answer} (read_at tag_twice 0) (Err (Fault twice))
  pub told_of_it : run_report twice ≡ record { number = 15; layer = layer.Event; began = 0; place = 2 }
  -- threshold 7: 111 is under and 112 is not; with the fine step 13 is under and 14 is not
  pub coarse_under : nat_lt 111 (charge.floor Coarse 7) ≡ true
  pub coarse_at_floor : nat_lt 112 (charge.floor Coarse 7) ≡ false
  pub fine_under : nat_lt 13 (charge.floor Fine 7) ≡ true
  pub fine_at_floor : nat_lt 14 (charge.floor Fine 7) ≡ false
  pub coarse_judged_under : judged charge coarse level_7 111 ≡ judged_as true 111
  pub coarse_judged_at_floor : judged charge coarse level_7 112 ≡ judged_as false 112
  pub fine_judged_under : judged charge fine level_7 13 ≡ judged_as true 13
  pub fine_judged_at_floor : judged charge fine level_7 14 ≡ judged_as false 14
  -- the last number of the counter stands in the event's end, and the counter starts again
  pub last_words : map words after_last.waiting ≡ (0x1A050000 ∷ 0x1CFFFFFF ∷ []) ∷ []
  pub counter_starts_again : after_last.counter ≡ 0
