use Rattle.std.proofs.Common.{rules, ◌≡◌, ◌∷◌, [], ℕ, suc, List, drop, take, length, ap, ◌∙◌, unwrap_or}
use Rattle.std.specs.Prelude.{position}
use Rattle.std.proofs.lemmas.List.{take_rest}
use Rattle.script.specs.Parts.{gap, parts}
use Rattle.script.proofs.Scanning.{none_left, next_part}
use Rattle.script.proofs.parts.PartsIterator.next.Goals as goal

pub returns-in_err-start-clause-steps : goal.returns-in_err-start-clause-steps
returns-in_err-start-clause-steps c =
    let e : [] ≡ parts c.self.inside.rest.now = none_left c.self.inside.rest.now (search rules) in
    let z : c.args.self.now ≡ [] = cc in
    rw c.from_residual.ensures (z, z)

pub returns-clause-steps : goal.returns-clause-steps
returns-clause-steps c =
    let bs = c.self.inside.rest.now in
    let i = c.in_ok-start.start in
    let n = c.unwrap_or.result in
    let r = take_rest bs i in
    let e : parts bs ≡ take n (drop i bs) ∷ parts (drop n (drop i bs)) =
    next_part bs i n c.part_end.result (search rules) (c.part_end.ensures ∙ ap (position gap) r) (c.unwrap_or.ensures ∙ ap (λ (t : List ℕ). unwrap_or c.part_end.result (length t)) r) in
    let v : c.args.self.now ≡ parts bs = cc in
    let f : c.split_at.result.0.now ≡ take n (drop i bs) = c.split_at.ensures.front ∙ ap (take n) r in
    let b : c.split_at.result.1.now ≡ drop n (drop i bs) = c.split_at.ensures.back ∙ ap (drop n) r in
    rw (f, b) (v ∙ e)

pub returns-clause-goes : goal.returns-clause-goes
returns-clause-goes c =
    let l : length c.args.self.now ≡ suc (length (parts c.split_at.result.1.now)) = ap length (returns-clause-steps c) in
    search rules
