-- What the fields of a ticket tell: the zone field begins at line 1, column 12, the period field at line 3, column 1.
use Rattle.std.specs.Prelude.{◌≡◌, ℕ, List, Some, None, Option}
use Rattle.field.specs.Areas.{Area}
use Rattle.field.specs.Fields.{Field}
use Rattle.validity.specs.declared.answer.Period.{Period}
use Rattle.validity.specs.declared.answer.Zones.{Zones}
use Rattle.validity.specs.Zoning.{plain_zones}
use Rattle.validity.specs.Listing.{zones_of}
use Rattle.validity.specs.Periods.{period_of}
use Rattle.field_layers.specs.Layers.{areas, counting, numbered}

-- the zones of a field's text, plain where there is no field
abbrev pub zones_of_field : Option Field → Zones
zones_of_field (Some x) = zones_of x.characters
zones_of_field None = plain_zones

-- the zones that fields tell
abbrev pub zones_of_fields : List Field → Zones
zones_of_fields xs = zones_of_field (counting 1 12 xs)

-- every list of fields with these areas tells the zones of the field with the number told
abbrev pub ZonesAt : List Area → Option ℕ → Type 0
ZonesAt ys r = (xs : List Field) → ys ≡ areas xs → zones_of_fields xs ≡ zones_of_field (numbered xs r)

-- the period of a field's text, none where there is no field
abbrev pub period_of_field : Option Field → Option Period
period_of_field (Some x) = period_of x.characters
period_of_field None = None

-- the period that fields tell
abbrev pub period_of_fields : List Field → Option Period
period_of_fields xs = period_of_field (counting 3 1 xs)

-- every list of fields with these areas tells the period of the field with the number told
abbrev pub PeriodAt : List Area → Option ℕ → Type 0
PeriodAt ys r = (xs : List Field) → ys ≡ areas xs → period_of_fields xs ≡ period_of_field (numbered xs r)
