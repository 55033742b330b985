-- Writing a head to the front of a buffer: what is told, and what the buffer then holds.
use Rattle.std.specs.Prelude.{ℕ, cond, List, ◌++◌, length, drop, Ok, Result, nat_le}
use Rattle.refusal.specs.Chain.{then, demand}
use Rattle.refusal.specs.declared.causes.SheetCause.TheVariants.{BufferTooShort}
use Rattle.refusal.specs.declared.faults.SheetFault.{SheetFault}
use Rattle.refusal.specs.declared.faults.SheetFault.TheVariants.{Own}
use Rattle.head.specs.Heads.{encode}
use Rattle.record.specs.Start.{in_record}
use Rattle.head.specs.declared.items.HeadItems.{HeadItems}

-- the number of bytes, where the buffer has room for them
abbrev pub written : List ℕ → Result ℕ SheetFault
written buffer = then (demand (nat_le 53 (length buffer)) (Own BufferTooShort (in_record 0 0))) (λ _. Ok 53)

-- the record and behind it what stood there; without room for it, the buffer as it was
abbrev pub over : HeadItems → List ℕ → List ℕ
over h buffer = cond (nat_le 53 (length buffer)) (encode h ++ drop 53 buffer) buffer
