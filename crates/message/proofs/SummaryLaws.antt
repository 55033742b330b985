-- What is counted while a message is read is what its ticket needs.
use Rattle.std.proofs.Common.{◌≡◌, ℕ, ◌+◌, ◌*◌, ◌≤◌, leb, List, [], ◌∷◌, length, Ok, Err, codes, Option, Result, sym, refl, ap, ◌∙◌, arith}
use Rattle.std.proofs.lemmas.List.{length-append}
use Rattle.refusal.specs.Chain.{then, lift, demand}
use Rattle.refusal.proofs.Chains.{then_go, lift_ok}
use Rattle.refusal.specs.declared.causes.RecordCause.TheVariants.{WrongLength}
use Rattle.refusal.specs.declared.faults.RecordFault.TheVariants.{Own}
use Rattle.refusal.specs.declared.faults.SheetFault.{SheetFault}
use Rattle.refusal.specs.declared.faults.SheetFault.TheVariants.{Record}
use Rattle.octets.specs.Digits.{digits}
use Rattle.octets.proofs.DigitLaws.{length_digits}
use Rattle.field.specs.Fields.{Field}
use Rattle.head.specs.Reading.{head_at}
use Rattle.head.specs.declared.items.HeadItems.{HeadItems}
use Rattle.record.specs.Start.{in_record, body_length}
use Rattle.record.specs.declared.start.RecordKind.TheVariants.{Layout}
use Rattle.record.proofs.StartLaws.{start_told}
use Rattle.text_code.specs.Spellings.{OneToFour, OfCharacters, PrefixFree}
use Rattle.message.specs.Items.{seen}
use Rattle.message.specs.Summaries.{Summary, summary_in, ticket_summary}
use Rattle.message.specs.Totals.{behind, text_sizes, total}
use Rattle.ticket.specs.Lawful.{text_total, body_total}
use Rattle.ticket.specs.declared.room.Room.{Room}
use Rattle.ticket.specs.Reading.{ReadField, size_all, fields_of, count_at, fields_at, layout_to, carried_from, ticket_in}
use Rattle.ticket.specs.Tickets.{CarriedRecord, Ticket, field_bytes, fields_bytes, layout_body}
use Rattle.ticket.proofs.FieldLaws.{length_field}
use Rattle.ticket.proofs.LayoutLaws.{fields_told, layout_told}

-- a chain that is seen through a function at its end
module _ {X Y Z F : Type 0} (see : Y → Z) where
  pub seen_then : (r : Result X F) (next : X → Result Y F) → seen see (then r next) ≡ then r (λ x. seen see (next x))
  seen_then (Ok x) next = refl
  seen_then (Err f) next = refl

then_same : {X Y F : Type 0} (r : Result X F) (k l : X → Result Y F) → ((x : X) → r ≡ Ok x → k x ≡ l x) → then r k ≡ then r l
then_same (Ok x) k l h = h x refl
then_same (Err f) k l h = refl

-- the same, where the first check of the other chain stands in a chain of its own
module _ {W V X Y Z F : Type 0} (see : Y → Z) (view : X → V) (next : W → Result Y F) where
  inner : (r : Result X F) (k : V → Result Z F) (l : X → Result W F) → ((x : X) → r ≡ Ok x → k (view x) ≡ seen see (then (l x) next)) → then (seen view r) k ≡ seen see (then (then r l) next)
  inner (Ok x) k l h = h x refl
  inner (Err f) k l h = refl

module _ {W X Y Z F : Type 0} (see : Y → Z) (next : W → Result Y F) where
  first : (r : Result X F) (k : X → Result Z F) (l : X → Result W F) → ((x : X) → r ≡ Ok x → k x ≡ seen see (then (l x) next)) → then r k ≡ seen see (then (then r l) next)
  first (Ok x) k l h = h x refl
  first (Err f) k l h = refl

last : {X V Y Z F : Type 0} (see : Y → Z) (view : X → V) (r : Result X F) (k : V → Z) (l : X → Y) → ((x : X) → r ≡ Ok x → k (view x) ≡ see (l x)) → ◌≡◌ {A = Result Z F} (then (seen view r) (λ v. Ok (k v))) (seen see (then r (λ x. Ok (l x))))
last see view (Ok x) k l h = ap Ok (h x refl)
last see view (Err f) k l h = refl

sizes_parts : (xs : List ReadField) → size_all xs ≡ 13 * length (fields_of xs) + text_sizes xs
sizes_parts [] = refl
sizes_parts (x ∷ xs) = omega (arith, sizes_parts xs)

bytes_parts : (f : ℕ → Option (List ℕ)) (xs : List Field) → length (fields_bytes f xs) ≡ 13 * length xs + text_total f xs
bytes_parts f [] = refl
bytes_parts f (x ∷ xs) = omega (arith, bytes_parts f xs, length_field f x, length-append (field_bytes f x) (fields_bytes f xs))

pub length_layout : (f : ℕ → Option (List ℕ)) (xs : List Field) → length (layout_body f xs) ≡ 8 + length (fields_bytes f xs)
length_layout f xs = omega (arith, length-append (codes "RCT2") (digits 4 (length xs)), length-append (digits 4 (length xs)) (fields_bytes f xs), length_digits 4 (length xs))

module _ (f : ℕ → Option (List ℕ)) (short : OneToFour f) (bounded : OfCharacters f) (apart : PrefixFree f) (room : Room) (m : List ℕ) where
  counted : (head : HeadItems) (size count : ℕ) (xs : List ReadField) (rs : List CarriedRecord) → 65 + size ≤ length m → count_at m room (65 + size) ≡ Ok count → fields_at f m (65 + size) room.texts count 0 73 ≡ Ok xs → layout_to f m room (65 + size) ≡ Ok xs → ◌≡◌ {A = Summary} (record { head = head; needs = record { fields = count; texts = 0 + text_sizes xs; carried = 0 + length rs; bodies = 0 + body_total rs }; end = 65 + size }) (ticket_summary f (record { head = head; fields = fields_of xs; carried = rs }))
  counted head size count xs rs long c e layout =
      let h = layout_told f short bounded apart m room (65 + size) xs long layout in
      let end : 65 + size ≡ 65 + length (layout_body f (fields_of xs)) = sym h.holds.ends in
      let t = fields_told f short bounded apart m (65 + size) room.texts count 0 73 xs long (omega (arith, end, length_layout f (fields_of xs))) e in
      let fields : count ≡ length (fields_of xs) = sym t.1 in
      let texts : 0 + text_sizes xs ≡ text_total f (fields_of xs) = omega (arith, sizes_parts xs, bytes_parts f (fields_of xs), t.0.holds.ends) in
      let carried : 0 + length rs ≡ length rs = omega arith in
      let bodies : 0 + body_total rs ≡ body_total rs = omega arith in
      λ i. record { head = head; needs = record { fields = fields i; texts = texts i; carried = carried i; bodies = bodies i }; end = end i }

  layout_counted : (head : HeadItems) (size : ℕ) → 65 + size ≤ length m →
      then (count_at m room (65 + size)) (λ count.
      then (seen (behind 73 0) (fields_at f m (65 + size) room.texts count 0 73)) (λ texts.
      then (lift Record (demand (leb (65 + size) texts.place) (Own WrongLength (in_record 1 texts.place)))) (λ _.
      then (seen (total 0 0) (carried_from m room.bodies room.carried 2 (65 + size))) (λ carried.
      Ok (record { head = head; needs = record { fields = count; texts = texts.bytes; carried = carried.records; bodies = carried.bytes }; end = 65 + size })))))
      ≡ seen (ticket_summary f) (then (layout_to f m room (65 + size)) (λ xs. then (carried_from m room.bodies room.carried 2 (65 + size)) (λ rs. Ok (record { head = head; fields = fields_of xs; carried = rs }))))
  layout_counted head size long =
      let end = 65 + size in
      let left : List ReadField → Result (Unit {0}) SheetFault = λ xs. lift Record (demand (leb end (73 + size_all xs)) (Own WrongLength (in_record 1 (73 + size_all xs)))) in
      let ticket : List ReadField → List CarriedRecord → Ticket = λ xs rs. record { head = head; fields = fields_of xs; carried = rs } in
      let next : List ReadField → Result Ticket SheetFault = λ xs. then (carried_from m room.bodies room.carried 2 end) (λ rs. Ok (ticket xs rs)) in
      first (ticket_summary f) next (count_at m room end) _ (λ count. then (fields_at f m end room.texts count 0 73) (λ xs. then (left xs) (λ _. Ok xs))) (λ count c.
      inner (ticket_summary f) (behind 73 0) next (fields_at f m end room.texts count 0 73) _ (λ xs. then (left xs) (λ _. Ok xs)) (λ xs e.
      first (ticket_summary f) next (left xs) _ (λ _. Ok xs) (λ done l.
      last (ticket_summary f) (total 0 0) (carried_from m room.bodies room.carried 2 end) _ (ticket xs) (λ rs r.
      counted head size count xs rs long c e
      (then_go (count_at m room end) _ count _ c (then_go (fields_at f m end room.texts count 0 73) _ xs _ e (then_go (left xs) _ done _ l refl)))))))

  pub summary_told : summary_in f room m ≡ seen (ticket_summary f) (ticket_in f room m)
  unfolding ticket_in
  summary_told =
      let head = lift Record (head_at m) in
      let size = lift Record (body_length Layout m 1 53) in
      then_same head _ _ (λ h _.
      then_same size _ _ (λ n e. layout_counted h n (start_told Layout m 1 53 n (lift_ok Record (body_length Layout m 1 53) n e)).within) ∙ sym (seen_then (ticket_summary f) size _))
      ∙ sym (seen_then (ticket_summary f) head _)
