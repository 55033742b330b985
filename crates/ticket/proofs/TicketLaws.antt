-- Whole tickets: a message is accepted exactly when it is the bytes of a lawful ticket, and the bytes determine the ticket.
use Rattle.std.proofs.Common.{◌≡◌, ℕ, ◌+◌, ◌≤◌, List, length, Ok, codes, Option, sym, refl, ap, ◌∙◌, subst, arith}
use Rattle.std.proofs.lemmas.List.{length-append}
use Rattle.std.proofs.lemmas.Slice.Eq.{bytes_eq-Decides}
use Rattle.refusal.specs.Chain.{lift}
use Rattle.refusal.specs.declared.faults.SheetFault.TheVariants.{Record}
use Rattle.refusal.proofs.Chains.{ok_same, then_ok, then_go, lift_ok}
use Rattle.octets.specs.Bytes.{part}
use Rattle.octets.proofs.PartLaws.{Stands, stands, stands_part, stands_join, stands_cut, stands_whole, whole_stands}
use Rattle.field.specs.Fields.{Field}
use Rattle.head.specs.Heads.{encode as head_bytes}
use Rattle.head.specs.Reading.{head_at}
use Rattle.head.proofs.HeadLaws.{head_told, head_read, length-encode}
use Rattle.record.specs.Start.{body_length}
use Rattle.record.specs.declared.start.RecordKind.TheVariants.{Layout}
use Rattle.record.proofs.StartLaws.{StartsAt, start_told, start_read}
use Rattle.text_code.specs.Spellings.{OneToFour, OfCharacters, PrefixFree}
use Rattle.ticket.specs.Lawful.{Lawful, Fits, needs, text_total, body_total}
use Rattle.ticket.specs.declared.room.Room.{Room}
use Rattle.ticket.specs.Laws.{TicketOf, AcceptsExactly, BytesDetermine}
use Rattle.ticket.specs.Reading.{fields_of, layout_to, carried_from, ticket_in}
use Rattle.ticket.specs.Tickets.{Ticket, layout_body, record_bytes, carried_bytes, encode}
use Rattle.ticket.proofs.LayoutLaws.{sized, fields_sized, layout_told, layout_read}
use Rattle.ticket.proofs.RecordLaws.{record_told, record_read, carried_told, carried_read}

-- the record of the layout
layout_record_told : (f : ℕ → Option (List ℕ)) (m : List ℕ) (n : ℕ) (xs : List Field) → StartsAt Layout m 53 n → Stands m 65 (65 + n) (layout_body f xs) → Stands m 53 (65 + n) (record_bytes (codes "U_TLAY") (codes "01") (layout_body f xs))
layout_record_told f m n xs s body =
    record_told Layout m 53 n (codes "U_TLAY") (codes "01") (layout_body f xs) s
    ((bytes_eq-Decides (part m 53 6) (codes "U_TLAY")).0 s.id) ((bytes_eq-Decides (part m 59 2) (codes "01")).0 s.version) body

layout_record_read : (f : ℕ → Option (List ℕ)) (m : List ℕ) (xs : List Field) → length (layout_body f xs) ≤ 9999 → 65 + length (layout_body f xs) ≤ length m → Stands m 53 (65 + length (layout_body f xs)) (record_bytes (codes "U_TLAY") (codes "01") (layout_body f xs)) → StartsAt Layout m 53 (length (layout_body f xs)) × Stands m 65 (65 + length (layout_body f xs)) (layout_body f xs)
layout_record_read f m xs short within s =
    let r = record_read Layout m 53 (65 + length (layout_body f xs)) (codes "U_TLAY") (codes "01") (layout_body f xs)
    (record { six = refl; id = refl; two = refl; version = refl; lawful = refl; short = short; holds = s; within = within }) in
    (r.starts, r.body)

module _ (f : ℕ → Option (List ℕ)) (short : OneToFour f) (bounded : OfCharacters f) (apart : PrefixFree f) where
  ticket_told : (room : Room) (m : List ℕ) (t : Ticket) → room.carried ≤ 8 → ticket_in f room m ≡ Ok t → TicketOf f room m t
  unfolding ticket_in encode
  ticket_told room m t few e =
      let a = then_ok (lift Record (head_at m)) _ _ e in
      let b = then_ok (lift Record (body_length Layout m 1 53)) _ _ a.2 in
      let n : ℕ = b.0 in
      let c = then_ok (layout_to f m room (65 + n)) _ _ b.2 in
      let d = then_ok (carried_from m room.bodies room.carried 2 (65 + n)) _ _ c.2 in
      let head = head_told m a.0 (lift_ok Record (head_at m) a.0 a.1) in
      let start = start_told Layout m 1 53 n (lift_ok Record (body_length Layout m 1 53) n b.1) in
      let within : 65 + n ≤ length m = start.within in
      let layout = layout_told f short bounded apart m room (65 + n) c.0 within c.1 in
      let carried = carried_told m room.bodies room.carried 2 (65 + n) d.0 within d.1 in
      let made : Ticket = record { head = a.0; fields = fields_of c.0; carried = d.0 } in
      let bytes : Stands m 0 (length m) (encode f made) =
      stands_join m _ _ 0 53 (length m) (stands m (head_bytes a.0) 0 53 53 refl (omega arith) head.1)
      (stands_join m _ _ 53 (65 + n) (length m) (layout_record_told f m n made.fields start layout.holds) carried.0.holds) in
      subst (TicketOf f room m) (ok_same made t d.2)
      (record {
        lawful = record { head = head.0; fields = layout.lawful; layout = omega (arith, layout.holds.ends, start.short); carried = carried.0.lawful; few = omega (arith, carried.1) };
        fits = record { fields = layout.fields; texts = layout.texts; carried = carried.1; bodies = carried.0.fits };
        bytes = whole_stands m (encode f made) bytes;
      })

  ticket_read : (room : Room) (m : List ℕ) (t : Ticket) → TicketOf f room m t → ticket_in f room m ≡ Ok t
  unfolding ticket_in encode
  ticket_read room m t h =
      let n : ℕ = length (layout_body f t.fields) in
      let all : Stands m 0 (length m) (encode f t) = subst (Stands m 0 (length m)) (sym h.bytes) (stands_whole m) in
      let first : length (head_bytes t.head) ≡ 53 = length-encode t.head h.lawful.head in
      let a = stands_cut m (head_bytes t.head) _ 0 53 (length m) (omega arith) all in
      let long : length (record_bytes (codes "U_TLAY") (codes "01") (layout_body f t.fields)) ≡ 12 + n = simp length-append (omega arith) in
      let b = stands_cut m (record_bytes (codes "U_TLAY") (codes "01") (layout_body f t.fields)) (carried_bytes t.carried) 53 (65 + n) (length m) (omega arith) a.1 in
      let within : 65 + n ≤ length m = omega (arith, b.1.ends) in
      let r = layout_record_read f m t.fields h.lawful.layout within b.0 in
      let head : head_at m ≡ Ok t.head = head_read m t.head h.lawful.head (stands_part m (head_bytes t.head) 0 53 53 first a.0) in
      let fields : layout_to f m room (65 + n) ≡ Ok (sized f t.fields) =
      layout_read f short bounded apart m room (65 + n) t.fields h.lawful.layout (record { lawful = h.lawful.fields; holds = r.1; fields = h.fits.fields; texts = h.fits.texts }) in
      let carried : carried_from m room.bodies room.carried 2 (65 + n) ≡ Ok t.carried =
      carried_read m room.bodies room.carried 2 (65 + n) t.carried (record { lawful = h.lawful.carried; holds = b.1; fits = h.fits.bodies }) h.fits.carried in
      then_go (lift Record (head_at m)) _ t.head (Ok t) (ap (lift Record) head)
      (then_go (lift Record (body_length Layout m 1 53)) _ n (Ok t) (ap (lift Record) (start_read Layout m 1 53 n r.0))
      (then_go (layout_to f m room (65 + n)) _ (sized f t.fields) (Ok t) fields
      (then_go (carried_from m room.bodies room.carried 2 (65 + n)) _ t.carried (Ok t) carried
      (ap (λ xs. Ok (record { head = t.head; fields = xs; carried = t.carried })) (fields_sized f t.fields)))))

  pub accepts_exactly : (room : Room) (m : List ℕ) → room.carried ≤ 8 → AcceptsExactly f room m
  accepts_exactly room m few = record { told = λ t. ticket_told room m t few; accepted = ticket_read room m }

  -- in a room for both tickets
  same_ticket : (t u : Ticket) → Lawful f t → Lawful f u → encode f t ≡ encode f u → t ≡ u
  same_ticket t u first second e =
      let room : Room = record { fields = length t.fields + length u.fields; texts = text_total f t.fields + text_total f u.fields; carried = 8; bodies = body_total t.carried + body_total u.carried } in
      let a : Fits (needs f t) room = record { fields = omega arith; texts = omega arith; carried = first.few; bodies = omega arith } in
      let b : Fits (needs f u) room = record { fields = omega arith; texts = omega arith; carried = second.few; bodies = omega arith } in
      ok_same t u (sym (ticket_read room (encode f t) t (record { lawful = first; fits = a; bytes = refl })) ∙ ticket_read room (encode f t) u (record { lawful = second; fits = b; bytes = sym e }))

  pub bytes_determine : BytesDetermine f
  bytes_determine t u first second = (same_ticket t u first second, ap (encode f))
