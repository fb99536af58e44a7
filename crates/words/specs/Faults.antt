-- What a fault of the word layer tells: its number, its layer and its places, and in words.
use Rattle.std.specs.Prelude.{ℕ, List, codes}
use Rattle.words.specs.declared.fault.Due.{Due}
use Rattle.words.specs.declared.fault.Due.TheVariants.{First, Datum, End}
use Rattle.words.specs.declared.fault.Layer.{Layer}
use Rattle.words.specs.declared.fault.Layer.TheVariants.{Word}
use Rattle.words.specs.declared.fault.Report.{Report}
use Rattle.words.specs.declared.fault.Spot.{Spot}
use Rattle.words.specs.declared.fault.WordCause.{WordCause}
use Rattle.words.specs.declared.fault.WordCause.TheVariants.{Kind, Bit}
use Rattle.words.specs.declared.fault.WordFault.{WordFault}

abbrev pub report_at : ℕ → Layer → Spot → Report
report_at n l s = record { number = n; layer = l; began = s.began; place = s.place }

-- 11: a kind that is not due here; 12: a bit that must be 0 is 1
abbrev pub cause_number : WordCause → ℕ
cause_number Kind = 11
cause_number Bit = 12

abbrev pub word_report : WordFault → Report
word_report f = report_at (cause_number f.cause) Word f.spot

-- what is wrong, and what was expected in its place
abbrev pub fault_text : WordCause → Due → List ℕ
fault_text Kind First = codes "the word is of another kind; expected a header or a filler"
fault_text Kind Datum = codes "the word is of another kind; expected a datum"
fault_text Kind End = codes "the word is of another kind; expected the event's end"
fault_text Bit First = codes "a bit is 1; expected a header with bits 15, 14 and 7 to 0 zero"
fault_text Bit Datum = codes "a bit is 1; expected a datum with bits 23 to 21, 15 and 14 zero"
fault_text Bit End = codes "a bit is 1; expected an end with it zero"
