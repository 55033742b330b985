-- The parts of a ticket message that stand behind its head, each as the items that it is laid of.
use Rattle.std.specs.Prelude.{◌≡◌, ℕ, List, [], ◌∷◌, ◌++◌, length, codes, Option}
use Rattle.std.specs.List.{flat_map}
use Rattle.octets.specs.Digits.{digits}
use Rattle.field.specs.Areas.{Area}
use Rattle.field.specs.Fields.{Field}
use Rattle.ticket.specs.Tickets.{field_bytes, fields_bytes, layout_body, record_bytes, text_bytes}

-- items one behind another
abbrev pub joined : List (List ℕ) → List ℕ
joined items = flat_map (λ item. item) items

-- id, version and the length of the body, then the standard and the number of fields
abbrev pub start_items : ℕ → ℕ → List (List ℕ)
start_items fields size = codes "U_TLAY01" ∷ (digits 4 size ∷ (codes "RCT2" ∷ (digits 4 fields ∷ [])))

-- the layout record as far as its fields
abbrev pub layout_start : ℕ → ℕ → List ℕ
layout_start fields size = joined (start_items fields size)

abbrev pub field_items : Area → ℕ → List ℕ → List (List ℕ)
field_items area formatting text =
    digits 2 area.line ∷ (digits 2 area.column ∷ (digits 2 area.height ∷ (digits 2 area.width ∷ (digits 1 formatting ∷ (digits 4 (length text) ∷ (text ∷ []))))))

-- a field whose text has these bytes
abbrev pub field_bytes_of : Area → ℕ → List ℕ → List ℕ
field_bytes_of area formatting text = joined (field_items area formatting text)

-- id, version, the length of the body, and the body
abbrev pub record_items : List ℕ → List ℕ → List ℕ → List (List ℕ)
record_items id version body = id ∷ (version ∷ (digits 4 (length body) ∷ (body ∷ [])))

-- with the fields behind it, it is the layout record of every list of so many fields whose layout has so many bytes
abbrev pub StartsLayout : ℕ → ℕ → Type 0
StartsLayout fields size =
    (f : ℕ → Option (List ℕ)) (xs : List Field) → length xs ≡ fields → length (layout_body f xs) ≡ size → layout_start fields size ++ fields_bytes f xs ≡ record_bytes (codes "U_TLAY") (codes "01") (layout_body f xs)

-- the bytes of every field with this rectangle and formatting whose text has these bytes
abbrev pub BytesOfField : Area → ℕ → List ℕ → Type 0
BytesOfField area formatting text =
    (f : ℕ → Option (List ℕ)) (x : Field) → x.area ≡ area → x.formatting ≡ formatting → text_bytes f x.characters ≡ text → field_bytes_of area formatting text ≡ field_bytes f x
