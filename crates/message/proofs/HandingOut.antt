-- The text of a field that is found in a message is the text of that field of its ticket.
use Rattle.std.proofs.Common.{◌≡◌, ℕ, zero, suc, ◌+◌, ◌-◌, ◌<◌, ◌≤◌, Bool, true, false, ltb, leb, List, [], ◌∷◌, length, take, drop, Ok, Err, Option, Result, sym, refl, ap, ◌∙◌, subst, arith, Bor}
use Rattle.std.proofs.lemmas.Bool.{ltb-true, ltb-false}
use Rattle.refusal.specs.Chain.{then, lift, demand}
use Rattle.refusal.proofs.Chains.{ok_same, then_ok, then_go, lift_ok}
use Rattle.refusal.specs.declared.causes.RecordCause.TheVariants.{WrongLength}
use Rattle.refusal.specs.declared.faults.RecordFault.TheVariants.{Own}
use Rattle.refusal.specs.declared.faults.SheetFault.{SheetFault}
use Rattle.refusal.specs.declared.faults.SheetFault.TheVariants.{Record}
use Rattle.octets.specs.Bytes.{part}
use Rattle.octets.proofs.PartLaws.{stands_part}
use Rattle.field.specs.Fields.{Field}
use Rattle.head.specs.Reading.{head_at}
use Rattle.record.specs.Start.{in_record, body_length}
use Rattle.record.specs.declared.start.RecordKind.TheVariants.{Layout}
use Rattle.record.proofs.StartLaws.{start_told}
use Rattle.text_code.specs.Spellings.{OneToFour, OfCharacters, PrefixFree}
use Rattle.message.specs.Items.{Shape, seen, shape_of, shape_at}
use Rattle.message.specs.Parts.{StandsIn, HandedOut, TextAnswer, no_field, shape_in}
use Rattle.ticket.specs.Rooms.{largest, room_of}
use Rattle.message.specs.Summaries.{ticket_summary}
use Rattle.message.specs.Totals.{behind, text_sizes, numbered_at}
use Rattle.message.specs.declared.items.FieldItems.{FieldItems}
use Rattle.message.specs.declared.part.Part.{Part}
use Rattle.message.proofs.SummaryLaws.{length_layout}
use Rattle.ticket.specs.declared.room.Room.{Room}
use Rattle.ticket.specs.Reading.{ReadField, size_all, fields_of, count_at, field_at, fields_at, layout_to, carried_from, ticket_in}
use Rattle.ticket.specs.Tickets.{Ticket, text_bytes, fields_bytes, layout_body}
use Rattle.ticket.proofs.FieldLaws.{field_told, text_stands}
use Rattle.ticket.proofs.LayoutLaws.{fields_told, layout_told}

module _ (f : ℕ → Option (List ℕ)) (m : List ℕ) where
  -- field n of those that were read, and the fields before it
  record Numbered (end room n k place : ℕ) (xs : List ReadField) : Type 0 where
    front : List ReadField
    here : ReadField
    later : List Field
    which : drop n (fields_of xs) ≡ here.field ∷ later
    before : take n (fields_of xs) ≡ fields_of front
    first : fields_at f m end room n k place ≡ Ok front
    next : field_at f m end (room - text_sizes front) (k + n) (place + size_all front) ≡ Ok here

  numbered : (end room count n k place : ℕ) (xs : List ReadField) → n < length (fields_of xs) → fields_at f m end room count k place ≡ Ok xs → Numbered end room n k place xs
  unfolding fields_at
  numbered end room zero n k place xs some e =
      let none : length (fields_of xs) ≡ 0 = ap (λ ys. length (fields_of ys)) (sym (ok_same [] xs e)) in
      absurd (omega arith)
  numbered end room (suc c) zero k place xs some e =
      let a = then_ok (field_at f m end room k place) _ _ e in
      let x : ReadField = a.0 in
      let b = then_ok (fields_at f m end (room - x.size) c (k + 1) (place + 13 + x.size)) _ _ a.2 in
      let r : room - 0 ≡ room = omega arith in
      let i : k + 0 ≡ k = omega arith in
      let p : place + 0 ≡ place = omega arith in
      subst (Numbered end room zero k place) (ok_same (x ∷ b.0) xs b.2)
      (record { front = []; here = x; later = fields_of b.0; which = refl; before = refl; first = refl; next = (λ j. field_at f m end (r j) (i j) (p j)) ∙ a.1 })
  numbered end room (suc c) (suc n) k place xs some e =
      let a = then_ok (field_at f m end room k place) _ _ e in
      let x : ReadField = a.0 in
      let b = then_ok (fields_at f m end (room - x.size) c (k + 1) (place + 13 + x.size)) _ _ a.2 in
      let same : x ∷ b.0 ≡ xs = ok_same (x ∷ b.0) xs b.2 in
      let long : suc (length (fields_of b.0)) ≡ length (fields_of xs) = ap (λ ys. length (fields_of ys)) same in
      let s = numbered end (room - x.size) c n (k + 1) (place + 13 + x.size) b.0 (omega arith) b.1 in
      let r : room - (x.size + text_sizes s.front) ≡ room - x.size - text_sizes s.front = omega arith in
      let i : k + suc n ≡ k + 1 + n = omega arith in
      let p : place + (13 + x.size + size_all s.front) ≡ place + 13 + x.size + size_all s.front = omega arith in
      subst (Numbered end room (suc n) k place) same
      (record {
        front = x ∷ s.front;
        here = s.here;
        later = s.later;
        which = s.which;
        before = ap (λ ys. x.field ∷ ys) s.before;
        first = then_go (field_at f m end room k place) _ x _ a.1 (then_go (fields_at f m end (room - x.size) n (k + 1) (place + 13 + x.size)) _ s.front _ s.first refl);
        next = (λ j. field_at f m end (r j) (i j) (p j)) ∙ s.next;
      })

  -- so it is found by its number
  numbered_found : (end room n : ℕ) (xs : List ReadField) (s : Numbered end room n 0 73 xs) → numbered_at f m end room n ≡ Ok (shape_at (73 + size_all s.front) s.here)
  numbered_found end room n xs s =
      let i : n ≡ 0 + n = omega arith in
      let b : 0 + text_sizes s.front ≡ text_sizes s.front = omega arith in
      then_go (seen (behind 73 0) (fields_at f m end room n 0 73)) _ (behind 73 0 s.front) _ (ap (seen (behind 73 0)) s.first)
      (ap (seen (shape_at (73 + size_all s.front))) ((λ j. field_at f m end (room - b j) (i j) (73 + size_all s.front)) ∙ s.next))

  -- the fields of a message that is accepted
  record Fields (texts : ℕ) (t : Ticket) (end : ℕ) : Type 0 where
    count : ℕ
    read : List ReadField
    within : end ≤ length m
    fields : fields_of read ≡ t.fields
    told : fields_at f m end texts count 0 73 ≡ Ok read

module _ (f : ℕ → Option (List ℕ)) (short : OneToFour f) (bounded : OfCharacters f) (apart : PrefixFree f) where
  ticket_fields : (room : Room) (m : List ℕ) (t : Ticket) → ticket_in f room m ≡ Ok t → Fields f m room.texts t (65 + length (layout_body f t.fields))
  unfolding ticket_in
  ticket_fields room m t e =
      let a = then_ok (lift Record (head_at m)) _ _ e in
      let b = then_ok (lift Record (body_length Layout m 1 53)) _ _ a.2 in
      let end : ℕ = 65 + b.0 in
      let c = then_ok (layout_to f m room end) _ _ b.2 in
      let d = then_ok (carried_from m room.bodies room.carried 2 end) _ _ c.2 in
      let start = start_told Layout m 1 53 b.0 (lift_ok Record (body_length Layout m 1 53) b.0 b.1) in
      let within : end ≤ length m = start.within in
      let layout = layout_told f short bounded apart m room end c.0 within c.1 in
      let counted = then_ok (count_at m room end) _ _ c.1 in
      let read = then_ok (fields_at f m end room.texts counted.0 0 73) _ _ counted.2 in
      let left = then_ok (lift Record (demand (leb end (73 + size_all read.0)) (Own WrongLength (in_record 1 (73 + size_all read.0))))) _ _ read.2 in
      let made : Ticket = record { head = a.0; fields = fields_of c.0; carried = d.0 } in
      let same : made ≡ t = ok_same made t d.2 in
      let fields : fields_of read.0 ≡ made.fields = ap fields_of (ok_same read.0 c.0 left.2) in
      let to : end ≡ 65 + length (layout_body f made.fields) = sym layout.holds.ends in
      subst (λ u. Fields f m room.texts u (65 + length (layout_body f u.fields))) same
      (subst (Fields f m room.texts made) to (record { count = counted.0; read = read.0; within = within; fields = fields; told = read.1 }))

  -- the text of field n, which stands at its place
  record TextStands (m : List ℕ) (n : ℕ) (t : Ticket) (s : Shape) : Type 0 where
    field : Field
    later : List Field
    which : drop n t.fields ≡ field ∷ later
    bytes : part m s.place s.size ≡ text_bytes f field.characters
    size : length (text_bytes f field.characters) ≡ s.size
    at : s.place ≡ 73 + length (fields_bytes f (take n t.fields)) + 13

  found : (texts : ℕ) (m : List ℕ) (n : ℕ) (t : Ticket) (s : Shape) → n < length t.fields → Fields f m texts t (65 + length (layout_body f t.fields)) → ◌≡◌ {A = Result Shape SheetFault} (Ok s) (numbered_at f m (65 + length (layout_body f t.fields)) texts n) → TextStands m n t s
  found texts m n t s some r e =
      let end : ℕ = 65 + length (layout_body f t.fields) in
      let to : 73 ≤ end = omega (arith, length_layout f t.fields) in
      let long : length (fields_of r.read) ≡ length t.fields = ap length r.fields in
      let x = numbered f m end texts r.count n 0 73 r.read (omega arith) r.told in
      let same : shape_at (73 + size_all x.front) x.here ≡ s = ok_same (shape_at (73 + size_all x.front) x.here) s (sym (numbered_found f m end texts n r.read x) ∙ sym e) in
      let before = fields_told f short bounded apart m end texts n 0 73 x.front r.within to x.first in
      let here = field_told f short bounded apart m end (texts - text_sizes x.front) (0 + n) (73 + size_all x.front) x.here r.within x.next in
      let text = text_stands f m (73 + size_all x.front) (73 + size_all x.front + 13 + x.here.size) x.here.field here.holds in
      let front : take n t.fields ≡ fields_of x.front = ap (take n) (sym r.fields) ∙ x.before in
      let bytes : length (fields_bytes f (take n t.fields)) ≡ length (fields_bytes f (fields_of x.front)) = ap (λ ys. length (fields_bytes f ys)) front in
      subst (TextStands m n t) same
      (record {
        field = x.here.field;
        later = x.later;
        which = ap (drop n) (sym r.fields) ∙ x.which;
        bytes = stands_part m (text_bytes f x.here.field.characters) (73 + size_all x.front + 13) x.here.size (73 + size_all x.front + 13 + x.here.size) here.size text;
        size = here.size;
        at = omega (arith, before.0.holds.ends);
      })

  handed_out : (m : Bor (List ℕ)) (n : ℕ) (t : Ticket) (x : FieldItems) → TextStands m.now n t (shape_of x) → StandsIn m x.text → HandedOut f m n t x.text
  handed_out m n t x s taken =
      let size : ℕ = length x.text.bytes.now in
      let width : x.text.place + size - x.text.place ≡ size = omega arith in
      record {
        field = s.field;
        later = s.later;
        which = s.which;
        bytes = taken.holds ∙ ap (λ k. take k (drop x.text.place m.now)) width ∙ s.bytes;
        at = s.at;
        taken = taken;
      }

  -- a field was found, and its text handed out
  ticket_handed : (m : Bor (List ℕ)) (n : ℕ) (t : Ticket) (x : FieldItems) (some : Bool) → ltb n (length t.fields) ≡ some → Fields f m.now 7000 t (65 + length (layout_body f t.fields)) → ◌≡◌ {A = Result Shape SheetFault} (Ok (shape_of x)) (then (demand some (no_field n)) (λ _. numbered_at f m.now (65 + length (layout_body f t.fields)) 7000 n)) → StandsIn m x.text → HandedOut f m n t x.text
  ticket_handed m n t x true b r e taken = handed_out m n t x (found 7000 m.now n t (shape_of x) (ltb-true n (length t.fields) b) r e) taken
  ticket_handed m n t x false b r e taken = let z : ◌≡◌ {A = ℕ} 0 1 = cc in absurd (omega arith)

  message_handed : (m : Bor (List ℕ)) (n : ℕ) (x : FieldItems) (q : Result Ticket SheetFault) → ticket_in f (room_of largest) m.now ≡ q → ◌≡◌ {A = Result Shape SheetFault} (Ok (shape_of x)) (then (seen (ticket_summary f) q) (λ s. then (demand (ltb n s.needs.fields) (no_field n)) (λ _. numbered_at f m.now s.end 7000 n))) → StandsIn m x.text → TextAnswer f m n q (Ok x.text)
  message_handed m n x (Ok t) told e taken = ticket_handed m n t x (ltb n (length t.fields)) refl (ticket_fields (room_of largest) m.now t told) e taken
  message_handed m n x (Err fault) told e taken = let z : ◌≡◌ {A = ℕ} 0 1 = cc in absurd (omega arith)

  pub text_handed : (m : Bor (List ℕ)) (n : ℕ) (x : FieldItems) → ◌≡◌ {A = Result Shape SheetFault} (Ok (shape_of x)) (shape_in f m.now n) → StandsIn m x.text → TextAnswer f m n (ticket_in f (room_of largest) m.now) (Ok x.text)
  text_handed m n x e taken = message_handed m n x (ticket_in f (room_of largest) m.now) refl e taken

  -- no field was found
  ticket_refused : (m : Bor (List ℕ)) (n : ℕ) (t : Ticket) (fault : SheetFault) (some : Bool) → ltb n (length t.fields) ≡ some → Fields f m.now 7000 t (65 + length (layout_body f t.fields)) → ◌≡◌ {A = Result Shape SheetFault} (Err fault) (then (demand some (no_field n)) (λ _. numbered_at f m.now (65 + length (layout_body f t.fields)) 7000 n)) → (length t.fields ≤ n) × (fault ≡ no_field n)
  ticket_refused m n t fault true b r e =
      let long : length (fields_of r.read) ≡ length t.fields = ap length r.fields in
      let some : n < length t.fields = ltb-true n (length t.fields) b in
      let end : ℕ = 65 + length (layout_body f t.fields) in
      let x = numbered f m.now end 7000 r.count n 0 73 r.read (omega arith) r.told in
      let never : ◌≡◌ {A = Result Shape SheetFault} (Err fault) (Ok (shape_at (73 + size_all x.front) x.here)) = e ∙ numbered_found f m.now end 7000 n r.read x in
      let z : ◌≡◌ {A = ℕ} 0 1 = cc in absurd (omega arith)
  ticket_refused m n t fault false b r e = let q : fault ≡ no_field n = cc in (ltb-false n (length t.fields) b, q)

  message_refused : (m : Bor (List ℕ)) (n : ℕ) (fault : SheetFault) (q : Result Ticket SheetFault) → ticket_in f (room_of largest) m.now ≡ q → ◌≡◌ {A = Result Shape SheetFault} (Err fault) (then (seen (ticket_summary f) q) (λ s. then (demand (ltb n s.needs.fields) (no_field n)) (λ _. numbered_at f m.now s.end 7000 n))) → TextAnswer f m n q (Err fault)
  message_refused m n fault (Ok t) told e = ticket_refused m n t fault (ltb n (length t.fields)) refl (ticket_fields (room_of largest) m.now t told) e
  message_refused m n fault (Err other) told e = let q : fault ≡ other = cc in ap Err q

  pub text_refused : (m : Bor (List ℕ)) (n : ℕ) (fault : SheetFault) (r : Result Part SheetFault) → ◌≡◌ {A = Result Shape SheetFault} (Err fault) (shape_in f m.now n) → r ≡ Err fault → TextAnswer f m n (ticket_in f (room_of largest) m.now) r
  text_refused m n fault r e is = subst (TextAnswer f m n (ticket_in f (room_of largest) m.now)) (sym is) (message_refused m n fault (ticket_in f (room_of largest) m.now) refl e)
