-- Steps of a loop that reads carried records.
use Rattle.std.proofs.Common.{◌≡◌, ℕ, zero, suc, ◌+◌, ◌-◌, ◌<◌, ◌≤◌, Bool, true, false, leb, List, [], ◌∷◌, length, Ok, Err, Result, sym, refl, ap, ◌∙◌, arith}
use Rattle.std.proofs.lemmas.Bool.{cond-true, cond-false, le-leb, lt-leb}
use Rattle.refusal.specs.Chain.{then, demand}
use Rattle.refusal.specs.declared.causes.SheetCause.TheVariants.{TooManyEntries}
use Rattle.refusal.specs.declared.faults.SheetFault.{SheetFault}
use Rattle.refusal.specs.declared.faults.SheetFault.TheVariants.{Own}
use Rattle.record.specs.Start.{in_record}
use Rattle.message.specs.Items.{seen, carried_of}
use Rattle.message.specs.Totals.{total}
use Rattle.message.specs.declared.items.CarriedItems.{CarriedItems}
use Rattle.ticket.specs.Lawful.{body_total}
use Rattle.ticket.specs.Reading.{carried_at, carried_from}
use Rattle.ticket.specs.Tickets.{CarriedRecord}

module _ (m : List ℕ) where
  at_end : (room n k place : ℕ) → leb (length m) place ≡ true → carried_from m room n k place ≡ Ok []
  unfolding carried_from
  at_end room zero k place e = ap (λ b. then (demand b (Own TooManyEntries (in_record k place))) (λ _. Ok [])) e
  at_end room (suc n) k place e = cond-true (leb (length m) place) (Ok []) _ e

  none_more : (a b : ℕ) → total a b [] ≡ record { records = a; bytes = b }
  none_more a b =
      let p : a + 0 ≡ a = omega arith in
      let q : b + 0 ≡ b = omega arith in
      λ i. record { records = p i; bytes = q i }

  -- the message has ended
  pub carried_done : (a b room n k place : ℕ) → length m ≤ place → seen (total a b) (carried_from m room n k place) ≡ Ok (record { records = a; bytes = b })
  carried_done a b room n k place past = ap (seen (total a b)) (at_end room n k place (le-leb (length m) place past)) ∙ ap Ok (none_more a b)

  full : (a b : ℕ) (ended : Bool) (fault : SheetFault) → seen (total a b) (then (demand ended fault) (λ _. Ok [])) ≡ then (demand ended fault) (λ _. Ok (record { records = a; bytes = b }))
  full a b true fault = ap Ok (none_more a b)
  full a b false fault = refl

  -- there is room for no more: the message has ended, or is refused
  pub carried_full : (a b room n k place : ℕ) → n ≡ 0 → seen (total a b) (carried_from m room n k place) ≡ then (demand (leb (length m) place) (Own TooManyEntries (in_record k place))) (λ _. Ok (record { records = a; bytes = b }))
  unfolding carried_from
  carried_full a b room n k place none =
      ap (λ i. seen (total a b) (carried_from m room i k place)) none ∙ full a b (leb (length m) place) (Own TooManyEntries (in_record k place))

  rest_total : (a b : ℕ) (r : CarriedRecord) (q : Result (List CarriedRecord) SheetFault) → seen (total (a + 1) (b + length r.body)) q ≡ seen (total a b) (then q (λ rs. Ok (r ∷ rs)))
  rest_total a b r (Ok rs) =
      let one : a + 1 + length rs ≡ a + length (r ∷ rs) = omega arith in
      let more : b + length r.body + body_total rs ≡ b + body_total (r ∷ rs) = omega arith in
      ap Ok (λ i. record { records = one i; bytes = more i })
  rest_total a b r (Err f) = refl

  abbrev after : ℕ → ℕ → ℕ → ℕ → CarriedRecord → Result (List CarriedRecord) SheetFault
  after room j k place r = then (carried_from m (room - length r.body) j (k + 1) (place + 12 + length r.body)) (λ rs. Ok (r ∷ rs))

  first_step : (room n j k place : ℕ) → n ≡ suc j → place < length m → carried_from m room n k place ≡ then (carried_at m room k place) (after room j k place)
  unfolding carried_from
  first_step room n j k place more some =
      ap (λ i. carried_from m room i k place) more ∙ cond-false (leb (length m) place) (Ok []) (then (carried_at m room k place) (after room j k place)) (lt-leb (length m) place some)

  -- a record that was read, with others behind it
  pub carried_more : (a b room n j k place : ℕ) (x : CarriedItems) → n ≡ suc j → place < length m → x.body.place ≡ place + 12 → ◌≡◌ {A = Result CarriedRecord SheetFault} (Ok (carried_of x)) (carried_at m room k place) → seen (total (a + 1) (b + length x.body.bytes.now)) (carried_from m (room - length x.body.bytes.now) j (k + 1) (x.body.place + length x.body.bytes.now)) ≡ seen (total a b) (carried_from m room n k place)
  carried_more a b room n j k place x more some at e =
      let r : CarriedRecord = carried_of x in
      ap (λ p. seen (total (a + 1) (b + length r.body)) (carried_from m (room - length r.body) j (k + 1) (p + length r.body))) at
      ∙ rest_total a b r (carried_from m (room - length r.body) j (k + 1) (place + 12 + length r.body))
      ∙ ap (λ q. seen (total a b) (then q (after room j k place))) e
      ∙ ap (seen (total a b)) (sym (first_step room n j k place more some))

  pub carried_stop : {Y : Type 0} (g : List CarriedRecord → Y) (room n j k place : ℕ) (e : SheetFault) → n ≡ suc j → place < length m → ◌≡◌ {A = Result CarriedRecord SheetFault} (Err e) (carried_at m room k place) → ◌≡◌ {A = Result Y SheetFault} (Err e) (seen g (carried_from m room n k place))
  carried_stop g room n j k place e more some h =
      ap (λ q. seen g (then q (after room j k place))) h ∙ ap (seen g) (sym (first_step room n j k place more some))
