use Rattle.std.proofs.Common.{◌/◌, List, ℕ, [], length, get_or, ap, ◌∙◌, arith}
use Rattle.reader.proofs.Packs.{chunk_word, put_more}
use Rattle.reader.proofs.pack.pack.Goals as goal

pub loop-i-preserved : goal.loop-i-preserved
loop-i-preserved c =
    let bs = c.args.bytes.now in
    let word = c.from_be_bytes.ensures ∙ chunk_word (length bs / 4) c.loop-i.i bs _ (omega arith) (ap (λ (t : List (List ℕ)). get_or t c.loop-i.i []) c.as_chunks.ensures.front) in
    put_more bs c.args.space.now c.loop-i.space c.loop-i.i c.from_be_bytes.result (omega arith) word c.loop-i.invariant
