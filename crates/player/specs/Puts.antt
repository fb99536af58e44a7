-- What the lines of a script come to, put to the first station of a bank.
use Rattle.std.specs.Prelude.{ℕ, min, if◌then◌else◌, List, replicate, Some, None, Ok, Err, Option, Result}
use Rattle.answers.specs.declared.refusal.Refusal.{Refusal}
use Rattle.answers.specs.declared.refusal.Refusal.TheVariants.{NoStation}
use Rattle.words.specs.Spaces.{onto}
use Rattle.bank.specs.Banks.{asked, changed}
use Rattle.bank.specs.Boards.{Board}
use Rattle.bank.specs.Draws.{short, first_words, waiting_answer, draw_answer, drawn}
use Rattle.bank.specs.Gates.{gate_answer, gated}
use Rattle.bank.specs.Reads.{read_answer}
use Rattle.bank.specs.Writes.{write_answer, written}
use Rattle.script.specs.declared.call.Call.{Call}
use Rattle.script.specs.declared.call.Call.TheVariants as call
use Rattle.front_ends.specs.declared.kind.Kind.{Kind}
use Rattle.script.specs.declared.call.Line.{Line}
use Rattle.script.specs.declared.call.Line.TheVariants as line
use Rattle.script.specs.declared.mistake.Mistake.{Mistake}
use Rattle.script.specs.declared.mistake.Mistake.TheVariants.{NoBoard, SecondBoard}
use Rattle.script.specs.Readings.{readings_of}
use Rattle.script_text.specs.declared.reply.Answer.{Answer}
use Rattle.script_text.specs.declared.reply.Answer.TheVariants as answer
use Rattle.script_text.specs.declared.reply.Drawn.{Drawn}

-- before a board is named
abbrev pub opened : Result Line Mistake → Result (Option Kind) Mistake
opened (Ok line.Blank) = Ok None
opened (Ok (line.Board k)) = Ok (Some k)
opened (Ok (line.Call c)) = Err NoBoard
opened (Err m) = Err m

-- the words of the first waiting event at the front of the block d, of which n words were lent
abbrev pub block_into : ℕ → List ℕ → Board → List ℕ
block_into n d b = if short n then d else onto (first_words b.waiting) d

-- the block, and how many words at its front were drawn
abbrev pub with_block : List ℕ → Result ℕ Refusal → Result Drawn Refusal
with_block d (Ok n) = Ok (record { block = d; count = n })
with_block d (Err e) = Err e

-- a block of 64 words, all 0 at first
abbrev pub zeros : List ℕ
zeros = replicate 64 0

abbrev pub draw_into : ℕ → List Board → Result Drawn Refusal
draw_into n bs = with_block (asked (block_into n zeros) zeros bs 0) (asked (draw_answer n) (Err NoStation) bs 0)

-- what the first station answers; a block has 64 words at most
abbrev pub put_answer : Call → List Board → Answer
put_answer (call.Gate s rs) bs = answer.Gate (asked (gate_answer s (readings_of rs)) (Err NoStation) bs 0)
put_answer (call.Write o v) bs = answer.Write o (asked (write_answer o v) (Err NoStation) bs 0)
put_answer (call.Read o) bs = answer.Read o (asked (read_answer o) (Err NoStation) bs 0)
put_answer call.Waiting bs = answer.Waiting (asked waiting_answer (Err NoStation) bs 0)
put_answer (call.Draw n) bs = answer.Draw (draw_into (min n 64) bs)

abbrev pub put_after : Call → List Board → List Board
put_after (call.Gate s rs) bs = changed (gated s (readings_of rs)) bs 0
put_after (call.Write o v) bs = changed (written o v) bs 0
put_after (call.Read o) bs = bs
put_after call.Waiting bs = bs
put_after (call.Draw n) bs = changed (drawn (min n 64)) bs 0

-- after a board was named: a line that is no call changes nothing
abbrev pub taken : Result Line Mistake → List Board → Option (Result Answer Mistake)
taken (Ok line.Blank) bs = None
taken (Ok (line.Board k)) bs = Some (Err SecondBoard)
taken (Ok (line.Call c)) bs = Some (Ok (put_answer c bs))
taken (Err m) bs = Some (Err m)

abbrev pub taken_after : Result Line Mistake → List Board → List Board
taken_after (Ok line.Blank) bs = bs
taken_after (Ok (line.Board k)) bs = bs
taken_after (Ok (line.Call c)) bs = put_after c bs
taken_after (Err m) bs = bs
