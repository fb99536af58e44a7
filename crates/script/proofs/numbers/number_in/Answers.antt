use Rattle.std.proofs.Common.{◌≤◌, ap, ◌∙◌, Some, arith}
use Rattle.script.specs.Numbers.{number_of}
use Rattle.script.proofs.Counting.{within, written, inside, outside, past_range}
use Rattle.script.proofs.numbers.number_in.Goals as goal

pub returns-in-Ok : goal.returns-in-Ok
returns-in-Ok c =
    let h = within c.args.place c.in-Ok.number c.range.ensures.start c.range.ensures.end c.range.ensures.whole c.contains.ensures.value c.if-contains.true in
    let g = written c.ok_or.ensures.ok_part c.in_ok-number.was c.number.ensures in
    inside c.args.place (number_of c.args.bytes.now) c.in-Ok.number (ap (λ m. Some m) c.in-Ok.ensures.1 ∙ g) h

pub returns-in_default : goal.returns-in_default
returns-in_default c =
    let h = within c.args.place c.in-Ok.number c.range.ensures.start c.range.ensures.end c.range.ensures.whole c.contains.ensures.value c.if-contains.false in
    let g = written c.ok_or.ensures.ok_part c.in_ok-number.was c.number.ensures in
    outside c.args.place (number_of c.args.bytes.now) c.in-Ok.number (ap (λ m. Some m) c.in-Ok.ensures.1 ∙ g) h

pub returns-in_default-2 : goal.returns-in_default-2
returns-in_default-2 c =
    let w = rw c.in_default.is at c.try_from.ensures in
    let l : 65536 ≤ c.in_ok-number.number = omega arith in
    let g = written c.ok_or.ensures.ok_part c.in_ok-number.was c.number.ensures in
    outside c.args.place (number_of c.args.bytes.now) c.in_ok-number.number g (past_range c.args.place c.in_ok-number.number l)
