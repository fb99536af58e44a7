use Rattle.std.proofs.Common.{◌≡◌, ◌<◌, ◌++◌, true, length, is_ok, codes, decimal, rules}
use Rattle.std.proofs.Output.{has_written_of_eq, has_written_append}
use Rattle.script_text.specs.Digits.{hex_text}
use Rattle.script_text.proofs.Spelling.{words_more}
use Rattle.script_text.proofs.reply.DrawnDisplay.fmt.Goals as goal

pub loop-word-preserved : goal.loop-word-preserved
loop-word-preserved g c plain =
    let took = g.W.Write.write_str_gives in
    let ws = c.as_slice-words.result.now in
    let i = c.loop-word.word-index in
    let here : i < length ws = search rules in
    let ok : is_ok c.write-in-loop-word.result ≡ true = search rules in
    let so_far = c.loop-word.invariant plain in
    let next = c.write-in-loop-word.ensures.writes so_far.plain ok in
    has_written_of_eq took c.args.f.now _ _ c.write-in-loop-word.new.self (words_more (decimal (length ws)) (codes " words:") ws i c.from.result.0 here c.from.ensures)
    (has_written_append took c.args.f.now _ c.loop-word.f (codes " " ++ hex_text c.from.result.0) c.write-in-loop-word.new.self so_far next)
