use Rattle.std.proofs.Common.{◌≡◌, ◌+◌, ◌-◌, length, replicate, arith, rules}
use borrow.Rule.Slice.PartMut.{put_mid}
use Rattle.script.proofs.Storing.{put_run, put_whole, run_written}
use Rattle.script.proofs.call.Readings.put.Goals as goal

pub returns : goal.returns
returns c =
    let r = c.args.self.now in
    let run = c.args.run in
    let k = (r.count + c.from.result) - r.count in
    let same : k ≡ run.times = omega arith in
    let room : length r.values ≡ 256 = search rules in
    let ys = c.fill.new.self in
    let e : ys ≡ replicate run.times run.value = run_written r.count k run.times r.values run.value ys same (omega (arith, room)) (c.fill.ensures.after (λ y e. e)) in
    let w = put_whole r (record { values = put_mid r.count k r.values ys; count = r.count + c.from.result }) run c.requires (omega arith)
    (put_run r run k (r.count + c.from.result) ys c.requires (omega arith) same (omega arith) e) in
    record { is = w.0; zeros = w.1 }
