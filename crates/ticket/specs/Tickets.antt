-- What a ticket is, and its bytes in a text code, where f gives the bytes of each character.
use Rattle.std.specs.Prelude.{ℕ, List, [], ◌∷◌, ◌++◌, length, Some, None, codes, Option}
use Rattle.octets.specs.Digits.{digits}
use Rattle.field.specs.Fields.{Field}
use Rattle.head.specs.Heads.{encode as head_bytes}
use Rattle.head.specs.declared.items.HeadItems.{HeadItems}
use Rattle.text_code.specs.Spellings.{spell_all}

-- a record that is carried along, its body byte for byte
pub record CarriedRecord : Type 0 where
  pub id : List ℕ
  pub version : List ℕ
  pub body : List ℕ

pub record Ticket : Type 0 where
  pub head : HeadItems
  pub fields : List Field
  pub carried : List CarriedRecord

abbrev pub or_none : Option (List ℕ) → List ℕ
or_none (Some bs) = bs
or_none None = []

-- the bytes of a text: none where a character has no spelling
abbrev pub text_bytes : (ℕ → Option (List ℕ)) → List ℕ → List ℕ
text_bytes f cs = or_none (spell_all f cs)

-- line, column, height and width, formatting, the number of the text's bytes, and the text
abbrev pub field_bytes : (ℕ → Option (List ℕ)) → Field → List ℕ
field_bytes f x =
    digits 2 x.area.line ++ (digits 2 x.area.column ++ (digits 2 x.area.height ++ (digits 2 x.area.width ++ (digits 1 x.formatting ++ (digits 4 (length (text_bytes f x.characters)) ++ text_bytes f x.characters)))))

abbrev pub fields_bytes : (ℕ → Option (List ℕ)) → List Field → List ℕ
fields_bytes f [] = []
fields_bytes f (x ∷ xs) = field_bytes f x ++ fields_bytes f xs

-- the standard, the number of fields, and the fields
abbrev pub layout_body : (ℕ → Option (List ℕ)) → List Field → List ℕ
layout_body f xs = codes "RCT2" ++ (digits 4 (length xs) ++ fields_bytes f xs)

-- a record: its id, its version, the length of its body, and the body
abbrev pub record_bytes : List ℕ → List ℕ → List ℕ → List ℕ
record_bytes id version body = id ++ (version ++ (digits 4 (length body) ++ body))

abbrev pub carried_bytes : List CarriedRecord → List ℕ
carried_bytes [] = []
carried_bytes (r ∷ rs) = record_bytes r.id r.version r.body ++ carried_bytes rs

-- the bytes of a ticket: the head, the layout and the carried records, in this order
unfoldable pub encode : (ℕ → Option (List ℕ)) → Ticket → List ℕ
encode f t = head_bytes t.head ++ (record_bytes (codes "U_TLAY") (codes "01") (layout_body f t.fields) ++ carried_bytes t.carried)
