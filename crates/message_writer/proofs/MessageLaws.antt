-- The length of a whole message, and that its parts laid one behind another are it.
use Rattle.std.proofs.Common.{◌≡◌, ℕ, ◌+◌, ◌-◌, ◌*◌, ◌^◌, ◌≤◌, min, true, leb, List, [], ◌∷◌, ◌++◌, length, drop, codes, Option, sym, refl, ap, ◌∙◌, arith}
use Rattle.std.proofs.lemmas.List.{append_assoc, length-append}
use Rattle.std.proofs.lemmas.Bool.{cond-true, le-leb}
use Rattle.std.specs.List.{AllByRecursion}
use Rattle.field.specs.Fields.{Field}
use Rattle.head.specs.Heads.{encode as head_bytes, lawful as lawful_head}
use Rattle.head.specs.Writing.{over}
use Rattle.head.specs.declared.items.HeadItems.{HeadItems}
use Rattle.head.proofs.HeadLaws.{length-encode}
use Rattle.lists.specs.Laying.{laid}
use Rattle.ticket.specs.Lawful.{Lawful, LawfulCarried, body_total, needs, text_total}
use Rattle.ticket.specs.declared.room.Room.{Room}
use Rattle.ticket.specs.Tickets.{CarriedRecord, Ticket, carried_bytes, encode, field_bytes, fields_bytes, layout_body, record_bytes, text_bytes}
use Rattle.ticket.proofs.FieldLaws.{length_field}
use Rattle.message_writer.specs.Parts.{joined, layout_start}
use Rattle.message_writer.specs.Layings.{laid_in_turn}
use Rattle.message_writer.specs.Messages.{Countable, LengthOfMessage, PartsAreMessage, carried_parts, entry_parts, message_length, parts_of}
use Rattle.message_writer.proofs.Turns.{in_turn}
use Rattle.message_writer.proofs.PartLaws.{length_record, starts_layout}

length_fields : (f : ℕ → Option (List ℕ)) (xs : List Field) → length (fields_bytes f xs) ≡ 13 * length xs + text_total f xs
length_fields f [] = refl
length_fields f (x ∷ xs) = length-append (field_bytes f x) (fields_bytes f xs) ∙ omega (arith, length_field f x, length_fields f xs)

length_carried : (rs : List CarriedRecord) → AllByRecursion LawfulCarried rs → length (carried_bytes rs) ≡ 12 * length rs + body_total rs
length_carried [] fine = refl
length_carried (r ∷ rs) fine =
    length-append (record_bytes r.id r.version r.body) (carried_bytes rs)
    ∙ omega (arith, length_record r.id r.version r.body fine.0.six fine.0.two, length_carried rs fine.1)

length_layout : (f : ℕ → Option (List ℕ)) (xs : List Field) → length (layout_body f xs) ≡ 8 + 13 * length xs + text_total f xs
length_layout f xs = omega (arith, length_fields f xs)

length_message : (f : ℕ → Option (List ℕ)) (t : Ticket) → Lawful f t → length (encode f t) ≡ message_length (needs f t)
unfolding encode
length_message f t fine =
    let layout : List ℕ = record_bytes (codes "U_TLAY") (codes "01") (layout_body f t.fields) in
    length-append (head_bytes t.head) (layout ++ carried_bytes t.carried)
    ∙ omega (arith, length-encode t.head fine.head, length-append layout (carried_bytes t.carried), length_layout f t.fields, length_carried t.carried fine.carried)

-- eight bodies at most, each of four digits
bodies_short : (rs : List CarriedRecord) → AllByRecursion LawfulCarried rs → body_total rs ≤ 9999 * length rs
bodies_short [] fine = omega arith
bodies_short (r ∷ rs) fine = omega (arith, fine.0.short, bodies_short rs fine.1)

pub length_of_message : (n : Room) (size : ℕ) → size ≡ min (message_length n) (2 ^ 64 - 1) → LengthOfMessage n size
length_of_message n size e f t fine same =
    let long : length (encode f t) ≡ message_length n = length_message f t fine ∙ ap message_length same in
    let short : message_length (needs f t) ≤ 2 ^ 64 - 1 = omega (arith, fine.layout, length_layout f t.fields, bodies_short t.carried fine.carried, fine.few) in
    omega (arith, e, ap message_length same)

texts_short : (f : ℕ → Option (List ℕ)) (xs : List Field) (most : ℕ) → text_total f xs ≤ most → AllByRecursion (λ x. length (text_bytes f x.characters) ≤ most) xs
texts_short f [] most h = tt
texts_short f (x ∷ xs) most h = (omega arith, texts_short f xs most (omega arith))

each_body : (rs : List CarriedRecord) → AllByRecursion LawfulCarried rs → AllByRecursion (λ r. length r.body ≤ 9999) rs
each_body [] fine = tt
each_body (r ∷ rs) fine = (fine.0.short, each_body rs fine.1)

countable : (f : ℕ → Option (List ℕ)) (t : Ticket) → Lawful f t → Countable f t
countable f t fine =
    let long : length (layout_body f t.fields) ≡ 8 + 13 * length t.fields + text_total f t.fields = length_layout f t.fields in
    let short : length (layout_body f t.fields) ≤ 9999 = fine.layout in
    record { fields = omega arith; layout = short; texts = texts_short f t.fields 9999 (omega arith); bodies = each_body t.carried fine.carried }

joined_carried : (rs : List CarriedRecord) → joined (carried_parts rs) ≡ carried_bytes rs
joined_carried [] = refl
joined_carried (r ∷ rs) = ap (λ y. record_bytes r.id r.version r.body ++ y) (joined_carried rs)

joined_entries : (f : ℕ → Option (List ℕ)) (xs : List Field) (rs : List CarriedRecord) → joined (entry_parts f xs rs) ≡ fields_bytes f xs ++ carried_bytes rs
joined_entries f [] rs = joined_carried rs
joined_entries f (x ∷ xs) rs = ap (λ y. field_bytes f x ++ y) (joined_entries f xs rs) ∙ sym (append_assoc (field_bytes f x) (fields_bytes f xs) (carried_bytes rs))

joined_message : (f : ℕ → Option (List ℕ)) (t : Ticket) → head_bytes t.head ++ joined (parts_of f t) ≡ encode f t
unfolding encode
joined_message f t =
    let start : List ℕ = layout_start (length t.fields) (length (layout_body f t.fields)) in
    ap (λ y. head_bytes t.head ++ y)
    (ap (λ y. start ++ y) (joined_entries f t.fields t.carried) ∙ sym (append_assoc start (fields_bytes f t.fields) (carried_bytes t.carried))
    ∙ ap (λ y. y ++ carried_bytes t.carried) (starts_layout (length t.fields) (length (layout_body f t.fields)) f t.fields refl refl))

-- the head written to the front is its bytes laid there
over-laid : (h : HeadItems) (buffer : List ℕ) → lawful_head h ≡ true → 53 ≤ length buffer → over h buffer ≡ laid buffer 0 (head_bytes h)
over-laid h buffer fine long =
    let n : 53 ≡ 0 + length (head_bytes h) = omega (arith, length-encode h fine) in
    cond-true (leb 53 (length buffer)) (head_bytes h ++ drop 53 buffer) buffer (le-leb 53 (length buffer) long) ∙ ap (λ k. head_bytes h ++ drop k buffer) n

pub parts_are_message : (n : Room) (size : ℕ) → size ≡ min (message_length n) (2 ^ 64 - 1) → PartsAreMessage n size
parts_are_message n size e f t fine same buffer room =
    let head : List ℕ = head_bytes t.head in
    let parts : List (List ℕ) = parts_of f t in
    let long : length head ≡ 53 = length-encode t.head fine.head in
    let all : head ++ joined parts ≡ encode f t = joined_message f t in
    let counts : length (encode f t) ≡ size = length_of_message n size e f t fine same in
    let fits : 0 + length (head ++ joined parts) ≤ length buffer = omega (arith, ap length all) in
    let first : over t.head buffer ≡ laid buffer 0 head = over-laid t.head buffer fine.head (omega (arith, length-append head (joined parts))) in
    let behind : 53 ≡ 0 + length head = omega arith in
    let end : 0 + length (encode f t) ≡ size = omega arith in
    record {
      countable = countable f t fine;
      ends = omega (arith, ap length all, length-append head (joined parts));
      message =
          ap (λ b. laid_in_turn b 53 parts) first ∙ ap (λ p. laid_in_turn (laid buffer 0 head) p parts) behind ∙ in_turn buffer 0 (head ∷ parts) fits ∙ ap (laid buffer 0) all ∙ ap (λ k. encode f t ++ drop k buffer) end;
    }
