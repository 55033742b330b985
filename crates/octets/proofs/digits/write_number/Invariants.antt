use Rattle.std.proofs.Common.{◌≡◌, ◌++◌, length, drop}
use Rattle.octets.specs.Digits.{digits}
use Rattle.octets.proofs.digits.write_number.Given as goal

-- the digits still to be written, then those that stand already
abbrev pub invariant-loop-i : goal.invariant-loop-i
invariant-loop-i l = digits l.i l.rest ++ drop l.i l.item ≡ digits (length l.initial.item) l.number
