-- What each fault and each refusal tells, and in words.
use Rattle.std.specs.Prelude.{ℕ, List, codes}
use Rattle.words.specs.declared.fault.Due.TheVariants as due
use Rattle.words.specs.declared.fault.Layer.TheVariants as layer
use Rattle.words.specs.declared.fault.Report.{Report}
use Rattle.words.specs.Faults.{report_at, word_report, fault_text}
use Rattle.reader.specs.declared.fault.EventFault.{EventFault}
use Rattle.reader.specs.declared.fault.EventFault.TheVariants.{Word, Geo, TooMany, Twice, CutShort}
use Rattle.reader.specs.declared.fault.RunFault.{RunFault}
use Rattle.reader.specs.declared.fault.RunFault.TheVariants.{Event, NoSuchTag}
use Rattle.reader.specs.declared.fault.Refusal.{Refusal}
use Rattle.reader.specs.declared.fault.Refusal.TheVariants.{SpaceShort, TooLong, PastEnd, Fault}

-- 13: GEO differs from the header's; 14: more than 32 readings; 15: a tag twice; 16: the run ends inside the event
abbrev pub event_report : EventFault → Report
event_report (Word f) = word_report f
event_report (Geo s) = report_at 13 layer.Event s
event_report (TooMany s) = report_at 14 layer.Event s
event_report (Twice s) = report_at 15 layer.Event s
event_report (CutShort d s) = report_at 16 layer.Event s

-- 17: a tag that the front end lacks
abbrev pub run_report : RunFault → Report
run_report (Event f) = event_report f
run_report (NoSuchTag s) = report_at 17 layer.Run s

-- 7: the record space is under 256 bytes; 9: the run exceeds 16,384 words; 10: the place is past the run's end
abbrev pub refusal_number : Refusal → ℕ
refusal_number SpaceShort = 7
refusal_number TooLong = 9
refusal_number PastEnd = 10
refusal_number (Fault f) = (run_report f).number

-- the place of the word at fault, 0 where no word is
abbrev pub refusal_place : Refusal → ℕ
refusal_place SpaceShort = 0
refusal_place TooLong = 0
refusal_place PastEnd = 0
refusal_place (Fault f) = (run_report f).place

-- what is wrong, and what was expected in its place
abbrev pub event_text : EventFault → List ℕ
event_text (Word f) = fault_text f.cause f.due
event_text (Geo s) = codes "GEO differs; expected that of the event's header"
event_text (TooMany s) = codes "the header tells of too many readings; expected 32 or fewer"
event_text (Twice s) = codes "the tag was used in this event; expected one that was not"
event_text (CutShort due.Datum s) = codes "the run ends inside the event; expected a datum"
event_text (CutShort due.First s) = codes "the run ends inside the event; expected its end"
event_text (CutShort due.End s) = codes "the run ends inside the event; expected its end"

abbrev pub run_text : RunFault → List ℕ
run_text (Event f) = event_text f
run_text (NoSuchTag s) = codes "the board has no such tag; expected one of its own"

abbrev pub refusal_text : Refusal → List ℕ
refusal_text SpaceShort = codes "the record space is under 256 bytes"
refusal_text TooLong = codes "the run exceeds 16384 words"
refusal_text PastEnd = codes "the place is past the run's end"
refusal_text (Fault f) = run_text f
