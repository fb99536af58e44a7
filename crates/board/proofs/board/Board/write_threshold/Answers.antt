use Rattle.std.proofs.Common.{rules}
use Rattle.std.proofs.lemmas.List.{length-set}
use Rattle.settings.proofs.ThresholdLaws.{levels_set, level_fits}
use Rattle.board.proofs.board.Board.write_threshold.Goals as goal

pub invariant_of-self : goal.invariant_of-self
invariant_of-self g c =
    let b = c.args.self.now in
    let levels = levels_set b.settings.thresholds c.in_ok-slot.slot c.in_ok-threshold.threshold b.levels_fit (level_fits c.args.value c.in_ok-threshold.threshold (search rules)) in
    let long = length-set b.settings.thresholds c.in_ok-slot.slot c.in_ok-threshold.threshold in
    search rules
