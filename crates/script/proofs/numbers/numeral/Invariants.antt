use Rattle.std.proofs.Common.{◌≡◌, ◌≤◌, ◌^◌, ◌-◌, drop}
use Rattle.script.specs.Numbers.{numeral, saturated}
use Rattle.script.proofs.numbers.numeral.Given as goal

-- what is left to read gives what the whole gives
abbrev pub invariant-loop-byte : goal.invariant-loop-byte
invariant-loop-byte l = (l.number ≤ 2 ^ 32 - 1) × (saturated (numeral l.base l.number (drop l.byte-index l.digits)) ≡ saturated (numeral l.base 0 l.digits))
