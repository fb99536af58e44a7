use Rattle.std.proofs.Common.{take, length, ◌++◌, codes, decimal}
use Rattle.std.specs.Fmt.{IsPlainFormatter, HasWritten}
use Rattle.script_text.specs.Replies.{words_text}
use Rattle.script_text.proofs.reply.DrawnDisplay.fmt.Given as goal

-- the words so far are written
abbrev pub invariant-loop-word : goal.invariant-loop-word
invariant-loop-word g l =
    IsPlainFormatter l.fn.f → HasWritten g.W.Write.write_str_gives l.fn.f (decimal (length l.words) ++ (codes " words:" ++ words_text (take l.word-index l.words))) l.f
