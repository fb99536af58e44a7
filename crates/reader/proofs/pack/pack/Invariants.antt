use Rattle.std.proofs.Common.{◌≡◌}
use Rattle.words.specs.Spaces.{onto}
use Rattle.reader.specs.Packing.{packed}
use Rattle.reader.proofs.pack.pack.Given as goal

abbrev pub invariant-loop-i : goal.invariant-loop-i
invariant-loop-i l = l.space ≡ onto (packed l.bytes l.i) l.initial.space
