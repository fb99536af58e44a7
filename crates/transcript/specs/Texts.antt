-- What is said of a run: how much was read, and why no more.
use Rattle.std.specs.Prelude.{ℕ, List, ◌++◌, codes, decimal}
use Rattle.words.specs.declared.fault.Report.{Report}
use Rattle.reader.specs.declared.fault.Refusal.{Refusal}
use Rattle.reader.specs.declared.fault.Refusal.TheVariants.{SpaceShort, TooLong, PastEnd, Fault}
use Rattle.reader.specs.Faults.{run_report, run_text, refusal_number, refusal_text}
use Rattle.reader.specs.Packing.{pack_number, pack_text}
use Rattle.transcript.specs.declared.outcome.Tally.{Tally}
use Rattle.transcript.specs.declared.outcome.Stop.{Stop}
use Rattle.transcript.specs.declared.outcome.Stop.TheVariants.{Packing, Reading}

abbrev pub tally_text : Tally → List ℕ
tally_text t =
    codes "events " ++ (decimal t.events ++ (codes ", readings " ++ (decimal t.readings ++ (codes ", dashes " ++ (decimal t.dashes ++ (codes ", fillers " ++ decimal t.fillers))))))

-- a refusal, by its number and in words
abbrev pub refused_text : ℕ → List ℕ → List ℕ
refused_text number why = codes "refused " ++ (decimal number ++ (codes ": " ++ why))

-- a fault, by its number, its places and in words
abbrev pub faulty_text : Report → List ℕ → List ℕ
faulty_text r why =
    codes "fault " ++ (decimal r.number ++ (codes " at word " ++ (decimal r.place ++ (codes ", in the item that begins at word " ++ (decimal r.began ++ (codes ": " ++ why))))))

abbrev pub left_text : Refusal → List ℕ
left_text SpaceShort = refused_text (refusal_number SpaceShort) (refusal_text SpaceShort)
left_text TooLong = refused_text (refusal_number TooLong) (refusal_text TooLong)
left_text PastEnd = refused_text (refusal_number PastEnd) (refusal_text PastEnd)
left_text (Fault f) = faulty_text (run_report f) (run_text f)

abbrev pub stop_text : Stop → List ℕ
stop_text (Packing e) = refused_text (pack_number e) (pack_text e)
stop_text (Reading e) = left_text e
