use Rattle.std.proofs.Common.{eqb, ap, rules}
use Rattle.std.proofs.lemmas.Nat.Bits.{shr_and_one}
use Rattle.bits.specs.Bits.{has}
use Rattle.bits.proofs.BitLaws.{has_past}
use Rattle.bits.proofs.bit.Goals as goal

pub returns-then-place-lt32 : goal.returns-then-place-lt32
unfolding has
returns-then-place-lt32 c = ap (λ n. eqb n 1) (shr_and_one c.args.word c.args.place)

pub returns-else-place-lt32 : goal.returns-else-place-lt32
returns-else-place-lt32 c = let past = has_past c.args.word 32 c.args.place (search rules) (search rules) in search rules
