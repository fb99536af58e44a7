use Rattle.std.proofs.Common.{◌≡◌, ◌-◌, length, take, Err, ap, ◌∙◌, rules}
use Rattle.answers.specs.declared.refusal.Refusal.TheVariants.{NoStation}
use Rattle.bank.specs.Banks.{asked, changed}
use Rattle.bank.specs.Draws.{draw_answer, drawn}
use Rattle.player.specs.Puts.{block_into}
use Rattle.player.proofs.Drawing.{block_whole}
use Rattle.player.proofs.draw_into.Goals as goal

pub returns : goal.returns
returns g c =
    let bs = g.B.Bank.boards c.args.bank.now in
    let d = c.args.block.now in
    let lent = c.args.words - 0 in
    let all : lent ≡ c.args.words = search rules in
    let long : length (take lent d) ≡ lent = search rules in
    record {
      says = c.draw.ensures.says ∙ ap (λ n. asked (draw_answer n) (Err NoStation) bs 0) (long ∙ all);
      block =
          block_whole bs d c.draw.new.block lent (g.met.B.Bank.some c.args.bank.now) (g.met.B.Bank.lawful c.args.bank.now) long c.draw.ensures.block
          ∙ ap (λ n. asked (block_into n d) d bs 0) all;
      leaves = c.draw.ensures.leaves ∙ ap (λ n. changed (drawn n) bs 0) (long ∙ all);
    }
