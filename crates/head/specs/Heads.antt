-- What a head's items are, when they are lawful, and the 53 bytes of their record.
use Rattle.std.specs.Prelude.{ℕ, Bool, ◌&&◌, ◌||◌, List, ◌++◌, length, codes, ◌==◌, nat_le, slice_index}
use Rattle.std.specs.List.{list_all}
use Rattle.std.specs.Str.{bytes_eq}
use Rattle.calendar.specs.Gregorian.{real_date, real_time}
use Rattle.octets.specs.Bytes.{within, is_printable}
use Rattle.octets.specs.Digits.{digits}
use Rattle.head.specs.declared.items.Edition.{Edition}
use Rattle.head.specs.declared.items.HeadItems.{HeadItems}

-- 20 bytes from 32 to 126
abbrev pub lawful_key : List ℕ → Bool
lawful_key key = length key == 20 && list_all is_printable key

-- a real date, hour and minute
abbrev pub lawful_edition : Edition → Bool
lawful_edition e = real_date e.date && real_time (record { hour = e.hour; minute = e.minute; second = 0 })

abbrev pub is_letter : ℕ → Bool
is_letter b = within 65 90 b || within 97 122 b

-- two letters
abbrev pub lawful_language : List ℕ → Bool
lawful_language l = length l == 2 && (is_letter (slice_index l 0) && is_letter (slice_index l 1))

-- two letters, or two blanks where there is none
abbrev pub lawful_second : List ℕ → Bool
lawful_second l = lawful_language l || bytes_eq l (codes "  ")

-- flags are the sum of 1 (international), 2 (edited by an agent) and 4 (specimen)
abbrev pub lawful : HeadItems → Bool
lawful h = nat_le h.carrier 9999 && (lawful_key h.key && (lawful_edition h.edition && (nat_le h.flags 7 && (lawful_language h.language && lawful_second h.second_language))))

abbrev pub edition_bytes : Edition → List ℕ
edition_bytes e = digits 2 e.date.day ++ (digits 2 e.date.month ++ (digits 4 e.date.year ++ (digits 2 e.hour ++ digits 2 e.minute)))

-- the bytes of the record: id, version and length, then the items in their order
unfoldable pub encode : HeadItems → List ℕ
encode h = codes "U_HEAD010041" ++ (digits 4 h.carrier ++ (h.key ++ (edition_bytes h.edition ++ (digits 1 h.flags ++ (h.language ++ h.second_language)))))
