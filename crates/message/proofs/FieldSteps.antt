-- Steps of a loop that reads fields.
use Rattle.std.proofs.Common.{◌≡◌, ℕ, suc, ◌+◌, ◌-◌, List, ◌∷◌, length, Ok, Err, Option, Result, sym, refl, ap, ◌∙◌, arith}
use Rattle.refusal.specs.Chain.{then}
use Rattle.refusal.specs.declared.faults.SheetFault.{SheetFault}
use Rattle.refusal.proofs.Chains.{ok_same}
use Rattle.message.specs.Items.{Shape, seen, shape_of, shape_at}
use Rattle.message.specs.Totals.{behind, text_sizes}
use Rattle.message.specs.declared.items.FieldItems.{FieldItems}
use Rattle.ticket.specs.Reading.{ReadField, size_all, field_at, fields_at}

module _ (f : ℕ → Option (List ℕ)) (m : List ℕ) (end : ℕ) where
  pub fields_done : (b room n k place : ℕ) → n ≡ 0 → seen (behind place b) (fields_at f m end room n k place) ≡ Ok (record { place = place; bytes = b })
  unfolding fields_at
  fields_done b room n k place e =
      let p : place + 0 ≡ place = omega arith in
      let q : b + 0 ≡ b = omega arith in
      ap (λ j. seen (behind place b) (fields_at f m end room j k place)) e ∙ ap Ok (λ i. record { place = p i; bytes = q i })

  rest_behind : (place b : ℕ) (y : ReadField) (q : Result (List ReadField) SheetFault) → seen (behind (place + 13 + y.size) (b + y.size)) q ≡ seen (behind place b) (then q (λ ys. Ok (y ∷ ys)))
  rest_behind place b y (Ok ys) =
      let p : place + 13 + y.size + size_all ys ≡ place + size_all (y ∷ ys) = omega arith in
      let q : b + y.size + text_sizes ys ≡ b + text_sizes (y ∷ ys) = omega arith in
      ap Ok (λ i. record { place = p i; bytes = q i })
  rest_behind place b y (Err e) = refl

  abbrev after : ℕ → ℕ → ℕ → ℕ → ReadField → Result (List ReadField) SheetFault
  after room j k place y = then (fields_at f m end (room - y.size) j (k + 1) (place + 13 + y.size)) (λ ys. Ok (y ∷ ys))

  first_read : (b room j k place : ℕ) (x : FieldItems) (r : Result ReadField SheetFault) → ◌≡◌ {A = Result Shape SheetFault} (Ok (shape_of x)) (seen (shape_at place) r) → seen (behind (x.text.place + length x.text.bytes.now) (b + length x.text.bytes.now)) (fields_at f m end (room - length x.text.bytes.now) j (k + 1) (x.text.place + length x.text.bytes.now)) ≡ seen (behind place b) (then r (after room j k place))
  first_read b room j k place x (Ok y) e =
      let same : shape_of x ≡ shape_at place y = ok_same (shape_of x) (shape_at place y) e in
      let size : length x.text.bytes.now ≡ y.size = ap (λ s. s.size) same in
      let at : x.text.place ≡ place + 13 = ap (λ s. s.place) same in
      let next : x.text.place + length x.text.bytes.now ≡ place + 13 + y.size = omega arith in
      ap (λ p. seen (behind p (b + length x.text.bytes.now)) (fields_at f m end (room - length x.text.bytes.now) j (k + 1) p)) next
      ∙ ap (λ s. seen (behind (place + 13 + y.size) (b + s)) (fields_at f m end (room - s) j (k + 1) (place + 13 + y.size))) size
      ∙ rest_behind place b y (fields_at f m end (room - y.size) j (k + 1) (place + 13 + y.size))
  first_read b room j k place x (Err e) h = let z : ◌≡◌ {A = ℕ} 0 1 = cc in absurd (omega arith)

  first_refused : {Y : Type 0} (place : ℕ) (g : List ReadField → Y) (e : SheetFault) (r : Result ReadField SheetFault) (next : ReadField → Result (List ReadField) SheetFault) → ◌≡◌ {A = Result Shape SheetFault} (Err e) (seen (shape_at place) r) → ◌≡◌ {A = Result Y SheetFault} (Err e) (seen g (then r next))
  first_refused place g e (Ok y) next h = let z : ◌≡◌ {A = ℕ} 0 1 = cc in absurd (omega arith)
  first_refused place g e (Err d) next h = let q : e ≡ d = cc in ap Err q

  pub fields_more : (b room n j k place : ℕ) (x : FieldItems) → n ≡ suc j → ◌≡◌ {A = Result Shape SheetFault} (Ok (shape_of x)) (seen (shape_at place) (field_at f m end room k place)) → seen (behind (x.text.place + length x.text.bytes.now) (b + length x.text.bytes.now)) (fields_at f m end (room - length x.text.bytes.now) j (k + 1) (x.text.place + length x.text.bytes.now)) ≡ seen (behind place b) (fields_at f m end room n k place)
  unfolding fields_at
  fields_more b room n j k place x more e =
      first_read b room j k place x (field_at f m end room k place) e ∙ ap (λ i. seen (behind place b) (fields_at f m end room i k place)) (sym more)

  pub fields_stop : {Y : Type 0} (g : List ReadField → Y) (room n j k place : ℕ) (e : SheetFault) → n ≡ suc j → ◌≡◌ {A = Result Shape SheetFault} (Err e) (seen (shape_at place) (field_at f m end room k place)) → ◌≡◌ {A = Result Y SheetFault} (Err e) (seen g (fields_at f m end room n k place))
  unfolding fields_at
  fields_stop g room n j k place e more h =
      first_refused place g e (field_at f m end room k place) (after room j k place) h ∙ ap (λ i. seen g (fields_at f m end room i k place)) (sym more)
