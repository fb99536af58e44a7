use Rattle.std.proofs.Common.{rules}
use Rattle.settings.proofs.ModeLaws.{auto_incr_unnamed}
use Rattle.board.proofs.board.Board.clear_mode.Goals as goal

pub invariant_of-self-clause-auto_incr : goal.invariant_of-self-clause-auto_incr
invariant_of-self-clause-auto_incr g c =
    let unnamed = auto_incr_unnamed (g.F.FrontEnd.meaning c.args.self.now.front).carries_step c.args.value (search rules) in
    let cleared = c.with_cleared-self.ensures.bits 11 in
    let stood = c.args.self.now.auto_incr in
    search rules
