-- What is said of a run: what was read, and on a second line why it was left, if it was.
use Rattle.std.specs.Prelude.{ℕ, List, [], ◌++◌, Some, None, Option, codes}
use Rattle.transcript.specs.declared.outcome.Stop.{Stop}
use Rattle.transcript.specs.Texts.{tally_text, stop_text}
use Rattle.wording.specs.declared.Summary.{Summary}

abbrev pub why_line : Option Stop → List ℕ
why_line None = []
why_line (Some s) = codes "\n" ++ stop_text s

abbrev pub summary_text : Summary → List ℕ
summary_text x = tally_text x.0.tally ++ why_line x.0.stop
