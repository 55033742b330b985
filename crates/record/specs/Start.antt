-- A record's first twelve bytes: an id of 6, a version of 2, and a length of 4 digits that counts the bytes behind them.
use Rattle.std.specs.Prelude.{ℕ, ◌+◌, Bool, true, not, ◌&&◌, List, length, Ok, codes, Result, ◌==◌, nat_le}
use Rattle.std.specs.List.{list_all}
use Rattle.std.specs.Str.{bytes_eq}
use Rattle.refusal.specs.Chain.{then, lift, demand}
use Rattle.refusal.specs.declared.faults.Site.{Site}
use Rattle.refusal.specs.declared.causes.ItemCause.TheVariants.{NoDigit}
use Rattle.refusal.specs.declared.causes.RecordCause.TheVariants.{TooFewBytes, WrongId, WrongVersion, WrongLength}
use Rattle.refusal.specs.declared.faults.RecordFault.{RecordFault}
use Rattle.refusal.specs.declared.faults.RecordFault.TheVariants.{Item, Own}
use Rattle.octets.specs.Bytes.{part, is_digit, is_printable}
use Rattle.octets.specs.Digits.{numeral}
use Rattle.record.specs.declared.start.RecordKind.{RecordKind}
use Rattle.record.specs.declared.start.RecordKind.TheVariants.{Head, Layout, Carried}

-- a place in a record, outside the fields of a layout
abbrev pub in_record : ℕ → ℕ → Site
in_record number place = record { «record» = number; field = 0; place = place }

abbrev pub lawful_id : RecordKind → List ℕ → Bool
lawful_id Head id = bytes_eq id (codes "U_HEAD")
lawful_id Layout id = bytes_eq id (codes "U_TLAY")
lawful_id Carried id = list_all is_printable id && (not (bytes_eq id (codes "U_HEAD")) && not (bytes_eq id (codes "U_TLAY")))

abbrev pub lawful_version : RecordKind → List ℕ → Bool
lawful_version Head version = bytes_eq version (codes "01")
lawful_version Layout version = bytes_eq version (codes "01")
lawful_version Carried version = list_all is_digit version

abbrev pub lawful_length : RecordKind → ℕ → Bool
lawful_length Head n = n == 41
lawful_length Layout n = true
lawful_length Carried n = true

-- the width bytes at a site are there
abbrev pub whole : List ℕ → Site → ℕ → Result (Unit {0}) RecordFault
whole m s width = demand (nat_le (s.place + width) (length m)) (Own TooFewBytes s)

abbrev pub id_at : RecordKind → List ℕ → Site → Result (Unit {0}) RecordFault
id_at kind m s = then (whole m s 6) (λ _. demand (lawful_id kind (part m s.place 6)) (Own WrongId s))

abbrev pub version_at : RecordKind → List ℕ → Site → Result (Unit {0}) RecordFault
version_at kind m s = then (whole m s 2) (λ _. demand (lawful_version kind (part m s.place 2)) (Own WrongVersion s))

abbrev pub length_at : RecordKind → List ℕ → Site → Result ℕ RecordFault
length_at kind m s =
    then (whole m s 4) (λ _.
    then (lift Item (numeral (record { cause = NoDigit; site = s }) (part m s.place 4))) (λ n.
    then (demand (lawful_length kind n) (Own WrongLength s)) (λ _. Ok n)))

-- the length of the body of record number k that begins at a place, where its first twelve bytes are lawful and its body is whole
abbrev pub body_length : RecordKind → List ℕ → ℕ → ℕ → Result ℕ RecordFault
body_length kind m k place =
    then (id_at kind m (in_record k place)) (λ _.
    then (version_at kind m (in_record k (place + 6))) (λ _.
    then (length_at kind m (in_record k (place + 8))) (λ n.
    then (whole m (in_record k (place + 12)) n) (λ _. Ok n))))
