use Rattle.std.proofs.Common.{◌≡◌, ◌^◌, ◌<◌, drop}
use Rattle.octets.specs.Digits.{numeral_from}
use Rattle.octets.proofs.digits.read_number.Given as goal

-- what is left gives the whole's answer, and i digits write a number below 10 ^ i
abbrev pub invariant-loop-byte : goal.invariant-loop-byte
invariant-loop-byte l = (numeral_from l.fault l.value (drop l.byte-index l.item) ≡ numeral_from l.fault 0 l.item) × (l.value < 10 ^ l.byte-index)
