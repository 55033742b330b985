-- The five figures of a fault: a fault that rose from a lower layer keeps the figures it had there.
use Rattle.std.specs.Prelude.{ℕ, List, ◌++◌, codes, decimal}
use Rattle.refusal.specs.declared.faults.Site.{Site}
use Rattle.refusal.specs.declared.faults.ItemFault.{ItemFault}
use Rattle.refusal.specs.declared.faults.RecordFault.{RecordFault}
use Rattle.refusal.specs.declared.faults.RecordFault.TheVariants as record_fault
use Rattle.refusal.specs.declared.faults.SheetFault.{SheetFault}
use Rattle.refusal.specs.declared.faults.SheetFault.TheVariants as sheet_fault
use Rattle.refusal.specs.declared.figures.Refusal.{Refusal}
use Rattle.refusal.specs.Numbers.{item_number, record_number, sheet_number}

abbrev pub at : ℕ → ℕ → Site → Refusal
at number layer site = record { number = number; layer = layer; «record» = site.«record»; field = site.field; place = site.place }

abbrev pub item_figures : ItemFault → Refusal
item_figures f = at (item_number f.cause) 1 f.site

abbrev pub record_figures : RecordFault → Refusal
record_figures (record_fault.Item f) = item_figures f
record_figures (record_fault.Own c s) = at (record_number c) 2 s

abbrev pub sheet_figures : SheetFault → Refusal
sheet_figures (sheet_fault.Record f) = record_figures f
sheet_figures (sheet_fault.Own c s) = at (sheet_number c) 3 s

-- the line that a program prints of a refusal
abbrev pub line : Refusal → List ℕ
line r = codes "refused " ++ (decimal r.number ++ (codes " layer " ++ (decimal r.layer ++ (codes " place " ++ decimal r.place))))
