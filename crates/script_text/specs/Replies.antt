-- The line that tells what a line of a script came to.
use Rattle.std.specs.Prelude.{ℕ, List, ◌++◌, length, take, Some, None, Ok, Err, codes, decimal, Option, Result, flat_map}
use Rattle.answers.specs.declared.refusal.Refusal.{Refusal}
use Rattle.answers.specs.Refusals.{refused_text}
use Rattle.script.specs.declared.mistake.Mistake.{Mistake}
use Rattle.script.specs.Reasons.{reason_of}
use Rattle.script_text.specs.declared.reply.Answer.{Answer}
use Rattle.script_text.specs.declared.reply.Answer.TheVariants.{Gate, Write, Read, Waiting, Draw}
use Rattle.script_text.specs.declared.reply.Drawn.{Drawn}
use Rattle.script_text.specs.declared.reply.Reply.{Reply}
use Rattle.script_text.specs.Digits.{four_digits, eight_digits}

-- each word after a space
abbrev pub words_text : List ℕ → List ℕ
words_text ws = flat_map (λ w. codes " " ++ eight_digits w) ws

abbrev pub gated_text : Result (Option ℕ) Refusal → List ℕ
gated_text (Ok (Some n)) = codes "stored, " ++ (decimal n ++ codes " kept")
gated_text (Ok None) = codes "not stored, 0 kept"
gated_text (Err e) = refused_text e

abbrev pub done_text : Result (Unit {0}) Refusal → List ℕ
done_text (Ok _) = codes "done"
done_text (Err e) = refused_text e

abbrev pub value_text : Result ℕ Refusal → List ℕ
value_text (Ok v) = four_digits v
value_text (Err e) = refused_text e

abbrev pub count_text : Result ℕ Refusal → List ℕ
count_text (Ok n) = decimal n
count_text (Err e) = refused_text e

-- the first words of the block, as many as are counted
abbrev pub drawn_of : Drawn → List ℕ
drawn_of d = take d.count d.block

abbrev pub block_text : Drawn → List ℕ
block_text d = decimal (length (drawn_of d)) ++ (codes " words:" ++ words_text (drawn_of d))

abbrev pub drawn_text : Result Drawn Refusal → List ℕ
drawn_text (Ok d) = block_text d
drawn_text (Err e) = refused_text e

abbrev pub answer_text : Answer → List ℕ
answer_text (Gate r) = codes "gate: " ++ gated_text r
answer_text (Write offset r) = codes "write " ++ (four_digits offset ++ (codes ": " ++ done_text r))
answer_text (Read offset r) = codes "read " ++ (four_digits offset ++ (codes ": " ++ value_text r))
answer_text (Waiting r) = codes "waiting: " ++ count_text r
answer_text (Draw r) = codes "draw: " ++ drawn_text r

abbrev pub told_text : Result Answer Mistake → List ℕ
told_text (Ok a) = answer_text a
told_text (Err m) = codes "not understood: " ++ reason_of m

-- the line's number, and what it came to
abbrev pub reply_text : Reply → List ℕ
reply_text r = decimal r.line ++ (codes ": " ++ told_text r.told)
