use Rattle.std.proofs.Common.{rules, ◌≡◌, ◌<◌, get_or, ap, ◌∙◌, arith}
use Rattle.std.specs.Char.{digit_value}
use Rattle.script.specs.Numbers.{saturated}
use Rattle.script.proofs.Counting.{numeral_more, numeral_all, some_numeral}
use Rattle.script.proofs.numbers.numeral.Goals as goal

pub loop-byte-preserved : goal.loop-byte-preserved
loop-byte-preserved c =
    let bs = c.args.digits.now in
    let i = c.loop-byte.byte-index in
    let d : c.in_ok-digit.digit ≡ digit_value (get_or bs i 0) = search rules in
    let l : c.in_ok-digit.digit < c.args.base = search rules in
    (omega arith, numeral_more c.args.base c.loop-byte.number c.saturating_add-number.result c.in_ok-digit.digit bs i _ (omega arith) (search rules) d l (search rules) c.loop-byte.invariant.1)

pub returns : goal.returns
returns c =
    numeral_all c.args.base c.loop-byte.number c.args.digits.now c.loop-byte.byte-index _ (search rules) c.loop-byte.invariant.0 c.loop-byte.invariant.1
    ∙ ap saturated (some_numeral c.args.base c.args.digits.now (search rules))
