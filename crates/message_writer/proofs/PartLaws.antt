-- Laws of the parts' bytes.
use Rattle.std.proofs.Common.{◌≡◌, ℕ, ◌+◌, List, ◌++◌, length, sym, ap, ◌∙◌, arith}
use Rattle.std.proofs.lemmas.List.{append-nil, length-append}
use Rattle.octets.specs.Digits.{digits}
use Rattle.field.specs.Areas.{Area}
use Rattle.ticket.specs.Tickets.{fields_bytes, record_bytes, text_bytes}
use Rattle.message_writer.specs.Parts.{BytesOfField, StartsLayout, field_bytes_of, joined, layout_start, record_items}

pub starts_layout : (fields size : ℕ) → StartsLayout fields size
starts_layout fields size f xs n s =
    ap (λ k. layout_start k size ++ fields_bytes f xs) (sym n) ∙ ap (λ k. layout_start (length xs) k ++ fields_bytes f xs) (sym s)

pub bytes_of_field : (area : Area) (formatting : ℕ) (text : List ℕ) → BytesOfField area formatting text
bytes_of_field area formatting text f x a g t =
    ap (λ y. field_bytes_of y formatting text) (sym a) ∙ ap (λ y. field_bytes_of x.area y text) (sym g) ∙ ap (λ y. field_bytes_of x.area x.formatting y) (sym t)
    ∙ ap (λ y. digits 2 x.area.line ++ (digits 2 x.area.column ++ (digits 2 x.area.height ++ (digits 2 x.area.width ++ (digits 1 x.formatting ++ (digits 4 (length (text_bytes f x.characters)) ++ y)))))) (append-nil (text_bytes f x.characters))

pub length_field_items : (area : Area) (formatting : ℕ) (text : List ℕ) → length (field_bytes_of area formatting text) ≡ 13 + length text
length_field_items area formatting text = simp length-append (omega arith)

pub joined_record : (id version body : List ℕ) → joined (record_items id version body) ≡ record_bytes id version body
joined_record id version body = ap (λ y. id ++ (version ++ (digits 4 (length body) ++ y))) (append-nil body)

pub length_record : (id version body : List ℕ) → length id ≡ 6 → length version ≡ 2 → length (record_bytes id version body) ≡ 12 + length body
length_record id version body six two = simp length-append (omega arith)

pub length_record_items : (id version body : List ℕ) → length id ≡ 6 → length version ≡ 2 → length (joined (record_items id version body)) ≡ 12 + length body
length_record_items id version body six two = ap length (joined_record id version body) ∙ length_record id version body six two
