use Rattle.std.proofs.Common.{eqb, ap, w32, rules}
use Rattle.std.proofs.lemmas.Nat.Bits.{bit_at_set_same, bit_at_set_other}
use Rattle.bits.specs.Bits.{has}
use Rattle.bits.proofs.with_bit.Goals as goal

pub returns-then-place-lt32 : goal.returns-then-place-lt32
unfolding has
returns-then-place-lt32 c =
    record {
      here = λ h. ap (λ n. eqb n 1) (bit_at_set_same w32 c.args.word c.args.place h);
      others = λ j ne. ap (λ n. eqb n 1) (bit_at_set_other w32 c.args.word c.args.place (search rules) j ne);
      past = search rules;
    }
