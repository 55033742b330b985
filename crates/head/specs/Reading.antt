-- Reading a head from the front of a message: the items from left to right, and the first fault.
use Rattle.std.specs.Prelude.{ℕ, Bool, List, Ok, Result, nat_le}
use Rattle.refusal.specs.Chain.{then, lift, demand}
use Rattle.refusal.specs.declared.causes.ItemCause.TheVariants.{HeadItem}
use Rattle.refusal.specs.declared.faults.ItemFault.{ItemFault}
use Rattle.refusal.specs.declared.faults.RecordFault.{RecordFault}
use Rattle.refusal.specs.declared.faults.RecordFault.TheVariants.{Item}
use Rattle.octets.specs.Bytes.{part}
use Rattle.octets.specs.Digits.{numeral}
use Rattle.record.specs.Start.{in_record, body_length}
use Rattle.head.specs.Heads.{lawful_key, lawful_edition, lawful_language, lawful_second}
use Rattle.head.specs.declared.items.Edition.{Edition}
use Rattle.head.specs.declared.items.HeadItems.{HeadItems}
use Rattle.record.specs.declared.start.RecordKind.TheVariants.{Head}

abbrev pub fault_at : ℕ → ItemFault
fault_at place = record { cause = HeadItem; site = in_record 0 place }

-- the n bytes at a place, where they pass a test
abbrev pub tested : (List ℕ → Bool) → List ℕ → ℕ → ℕ → Result (List ℕ) ItemFault
tested test m place n = then (demand (test (part m place n)) (fault_at place)) (λ _. Ok (part m place n))

-- an item of several numbers has one place, where it begins
abbrev pub edition_at : List ℕ → Result Edition ItemFault
edition_at m =
    then (numeral (fault_at 36) (part m 36 2)) (λ day.
    then (numeral (fault_at 36) (part m 38 2)) (λ month.
    then (numeral (fault_at 36) (part m 40 4)) (λ year.
    then (numeral (fault_at 36) (part m 44 2)) (λ hour.
    then (numeral (fault_at 36) (part m 46 2)) (λ minute.
    then (demand (lawful_edition (record { date = record { day = day; month = month; year = year }; hour = hour; minute = minute })) (fault_at 36)) (λ _.
    Ok (record { date = record { day = day; month = month; year = year }; hour = hour; minute = minute })))))))

abbrev pub flags_at : List ℕ → Result ℕ ItemFault
flags_at m = then (numeral (fault_at 48) (part m 48 1)) (λ n. then (demand (nat_le n 7) (fault_at 48)) (λ _. Ok n))

abbrev pub items_at : List ℕ → Result HeadItems ItemFault
items_at m =
    then (numeral (fault_at 12) (part m 12 4)) (λ carrier.
    then (tested lawful_key m 16 20) (λ key.
    then (edition_at m) (λ edition.
    then (flags_at m) (λ flags.
    then (tested lawful_language m 49 2) (λ language.
    then (tested lawful_second m 51 2) (λ second.
    Ok (record { carrier = carrier; key = key; edition = edition; flags = flags; language = language; second_language = second })))))))

-- the head at the front of m, or the first fault
abbrev pub head_at : List ℕ → Result HeadItems RecordFault
head_at m = then (body_length Head m 0 0) (λ _. lift Item (items_at m))
