-- Faults of a text.
use Rattle.std.specs.Prelude.{ℕ, ◌<◌, Ok, Err, Result}
use Rattle.wrap.specs.declared.checks.TextFault.{TextFault}
use Rattle.wrap.specs.declared.checks.TextFault.TheVariants.{Character, TooLarge}

-- a faulty character stands in a text of so many bytes
abbrev pub FaultWithin : ℕ → TextFault → Type 0
FaultWithin size (Character index) = index < size
FaultWithin size TooLarge = Unit {0}

abbrev pub Within : ℕ → Result (Unit {0}) TextFault → Type 0
Within size (Ok done) = Unit {0}
Within size (Err fault) = FaultWithin size fault
