-- The number of each cause. Causes of an item are layer 1, of a record layer 2, of a sheet layer 3.
use Rattle.std.specs.Prelude.{ℕ}
use Rattle.refusal.specs.declared.causes.ItemCause.{ItemCause}
use Rattle.refusal.specs.declared.causes.ItemCause.TheVariants.{NoDigit, HeadItem, Rectangle, Character}
use Rattle.refusal.specs.declared.causes.RecordCause.{RecordCause}
use Rattle.refusal.specs.declared.causes.RecordCause.TheVariants.{TooFewBytes, WrongId, WrongVersion, WrongLength, WrongStandard, TextTooLarge}
use Rattle.refusal.specs.declared.causes.SheetCause.{SheetCause}
use Rattle.refusal.specs.declared.causes.SheetCause.TheVariants.{NoSuchEntry, NoTicket, TooManyEntries, MemoryExceeded, PageTooSmall, BufferTooShort}

abbrev pub item_number : ItemCause → ℕ
item_number NoDigit = 4
item_number HeadItem = 7
item_number Rectangle = 8
item_number Character = 9

abbrev pub record_number : RecordCause → ℕ
record_number TooFewBytes = 1
record_number WrongId = 2
record_number WrongVersion = 3
record_number WrongLength = 5
record_number WrongStandard = 6
record_number TextTooLarge = 10

abbrev pub sheet_number : SheetCause → ℕ
sheet_number NoSuchEntry = 11
sheet_number NoTicket = 12
sheet_number TooManyEntries = 13
sheet_number MemoryExceeded = 14
sheet_number PageTooSmall = 15
sheet_number BufferTooShort = 16
