-- Why a line is not understood, in plain words.
use Rattle.std.specs.Prelude.{ℕ, List, ◌++◌, codes}
use Rattle.script.specs.declared.mistake.Flaw.{Flaw}
use Rattle.script.specs.declared.mistake.Flaw.TheVariants.{Missing, NoNumber, OutOfRange}
use Rattle.script.specs.declared.mistake.Mistake.{Mistake}
use Rattle.script.specs.declared.mistake.Mistake.TheVariants.{UnknownCall, BoardKind, Number, Surplus, TooManyReadings, NoBoard, SecondBoard}
use Rattle.script.specs.declared.mistake.Place.{Place}
use Rattle.script.specs.declared.mistake.Place.TheVariants as place

abbrev pub place_name : Place → List ℕ
place_name place.Signal = codes "the signal"
place_name place.Reading = codes "a reading"
place_name place.Times = codes "how often"
place_name place.Offset = codes "the offset"
place_name place.Value = codes "the value"
place_name place.Length = codes "the block's length"

abbrev pub flaw_text : Flaw → List ℕ
flaw_text Missing = codes "is missing"
flaw_text NoNumber = codes "is not a number, decimal or after 0x"
flaw_text OutOfRange = codes "is out of range"

abbrev pub range_text : Place → List ℕ
range_text place.Signal = codes "none, veto, clear or a number up to 255"
range_text place.Reading = codes "a number up to 65535"
range_text place.Times = codes "a number from 1 to 64"
range_text place.Offset = codes "a number up to 65535"
range_text place.Value = codes "a number up to 65535"
range_text place.Length = codes "a number up to 64"

abbrev pub subject_of : Mistake → List ℕ
subject_of UnknownCall = codes "the call"
subject_of BoardKind = codes "the board's kind"
subject_of (Number p f) = place_name p
subject_of Surplus = codes "a part"
subject_of TooManyReadings = codes "the readings"
subject_of NoBoard = codes "the board"
subject_of SecondBoard = codes "the board"

abbrev pub trouble_of : Mistake → List ℕ
trouble_of UnknownCall = codes "is unknown"
trouble_of BoardKind = codes "is missing or unknown"
trouble_of (Number p f) = flaw_text f
trouble_of Surplus = codes "is left over"
trouble_of TooManyReadings = codes "are too many"
trouble_of NoBoard = codes "is not named yet"
trouble_of SecondBoard = codes "is named already"

abbrev pub wanted_of : Mistake → List ℕ
wanted_of UnknownCall = codes "board, gate, write, read, waiting or draw"
wanted_of BoardKind = codes "time or charge"
wanted_of (Number p f) = range_text p
wanted_of Surplus = codes "the line's end before it"
wanted_of TooManyReadings = codes "256 or fewer on a line"
wanted_of NoBoard = codes "board time or board charge first"
wanted_of SecondBoard = codes "one board in a script"

abbrev pub reason_of : Mistake → List ℕ
reason_of m = subject_of m ++ (codes " " ++ (trouble_of m ++ (codes "; expected " ++ wanted_of m)))
