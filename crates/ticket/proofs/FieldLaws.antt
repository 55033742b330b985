-- A field of a layout: what is read is what stands there.
use Rattle.std.proofs.Common.{◌≡◌, ℕ, ◌+◌, ◌^◌, ◌<◌, ◌≤◌, Bool, true, ◌&&◌, leb, List, length, Ok, Option, sym, refl, ap, ◌∙◌, subst, arith}
use Rattle.std.proofs.lemmas.List.{length-append}
use Rattle.std.proofs.lemmas.Bool.{and_parts, and_from, leb-true, le-leb}
use Rattle.refusal.specs.Chain.{lift, demand}
use Rattle.refusal.specs.declared.causes.ItemCause.TheVariants.{NoDigit, Rectangle}
use Rattle.refusal.specs.declared.causes.SheetCause.TheVariants.{MemoryExceeded}
use Rattle.refusal.specs.declared.faults.ItemFault.{ItemFault}
use Rattle.refusal.specs.declared.faults.RecordFault.TheVariants.{Item}
use Rattle.refusal.specs.declared.faults.SheetFault.TheVariants.{Record, Own as SheetOwn}
use Rattle.refusal.specs.declared.faults.Site.{Site}
use Rattle.refusal.proofs.Chains.{ok_same, then_ok, then_go, lift_ok, demand_ok, demand_go}
use Rattle.octets.specs.Bytes.{part}
use Rattle.octets.specs.Digits.{numeral, digits}
use Rattle.octets.proofs.DigitLaws.{length_digits}
use Rattle.octets.proofs.PartLaws.{Stands, stands, stands_part, stands_join, stands_cut, number_stands, stands_number}
use Rattle.field.specs.Areas.{Area, lawful as lawful_area}
use Rattle.field.specs.Fields.{Field}
use Rattle.field.specs.Formattings.{lawful_formatting}
use Rattle.text_code.specs.Reading.{Text}
use Rattle.text_code.specs.Spellings.{OneToFour, OfCharacters, PrefixFree}
use Rattle.text_code.specs.declared.characters.Permitted.TheVariants.{TicketText}
use Rattle.ticket.specs.Decoding.{text_in}
use Rattle.ticket.specs.Lawful.{LawfulField}
use Rattle.ticket.specs.Reading.{in_field, item_fault, in_body, number_at, tested_at, area_at, text_fault, text_at, ReadField, field_at}
use Rattle.ticket.specs.Tickets.{or_none, text_bytes, field_bytes}
use Rattle.ticket.proofs.TextLaws.{text_told, text_read}

pub in_body_told : (end : ℕ) (s : Site) (w : ℕ) (u : Unit {0}) → in_body end s w ≡ Ok u → s.place + w ≤ end
in_body_told end s w u e = leb-true (s.place + w) end (demand_ok (leb (s.place + w) end) _ u e)

pub in_body_read : (end : ℕ) (s : Site) (w : ℕ) → s.place + w ≤ end → in_body end s w ≡ Ok tt
in_body_read end s w h = demand_go (leb (s.place + w) end) _ (le-leb (s.place + w) end h)

-- the digits of n stand from a site to place q of a body
pub record NumberStands (m : List ℕ) (end : ℕ) (s : Site) (w q n : ℕ) : Type 0 where
  pub holds : Stands m s.place q (digits w n)
  pub below : n < 10 ^ w
  pub within : q ≤ end

pub number_at_told : (m : List ℕ) (end : ℕ) (s : Site) (w q n : ℕ) → end ≤ length m → s.place + w ≡ q → number_at m end s w ≡ Ok n → NumberStands m end s w q n
number_at_told m end s w q n long far e =
    let a = then_ok (in_body end s w) _ _ e in
    let fault : ItemFault = record { cause = NoDigit; site = s } in
    let within : s.place + w ≤ end = in_body_told end s w _ a.1 in
    let t = number_stands m fault s.place w q n far (omega arith) (lift_ok Item (numeral fault (part m s.place w)) n a.2) in
    record { holds = t.0; below = t.1; within = omega arith }

pub number_at_read : (m : List ℕ) (end : ℕ) (s : Site) (w q n : ℕ) → w ≤ 9 → NumberStands m end s w q n → number_at m end s w ≡ Ok n
number_at_read m end s w q n few h =
    let fault : ItemFault = record { cause = NoDigit; site = s } in
    then_go (in_body end s w) _ tt _ (in_body_read end s w (omega (arith, h.holds.ends, length_digits w n, h.within)))
    (ap (lift Item) (stands_number m fault s.place w q n few h.below h.holds))

pub tested_told : (m : List ℕ) (end : ℕ) (s : Site) (w q : ℕ) (test : ℕ → Bool) (n : ℕ) → end ≤ length m → s.place + w ≡ q → tested_at m end s w test ≡ Ok n → NumberStands m end s w q n × (test n ≡ true)
tested_told m end s w q test n long far e =
    let a = then_ok (number_at m end s w) _ _ e in
    let b = then_ok (demand (test a.0) (item_fault Rectangle s)) _ _ a.2 in
    subst (λ x. NumberStands m end s w q x × (test x ≡ true)) (ok_same a.0 n b.2) (number_at_told m end s w q a.0 long far a.1, demand_ok (test a.0) _ _ b.1)

pub tested_read : (m : List ℕ) (end : ℕ) (s : Site) (w q : ℕ) (test : ℕ → Bool) (n : ℕ) → w ≤ 9 → NumberStands m end s w q n → test n ≡ true → tested_at m end s w test ≡ Ok n
tested_read m end s w q test n few h passed =
    then_go (number_at m end s w) _ n _ (number_at_read m end s w q n few h)
    (then_go (demand (test n) (item_fault Rectangle s)) _ tt _ (demand_go (test n) _ passed) refl)

-- the rectangle
record AreaStands (m : List ℕ) (place : ℕ) (a : Area) : Type 0 where
  line : Stands m place (place + 2) (digits 2 a.line)
  column : Stands m (place + 2) (place + 4) (digits 2 a.column)
  height : Stands m (place + 4) (place + 6) (digits 2 a.height)
  width : Stands m (place + 6) (place + 8) (digits 2 a.width)

area_told : (m : List ℕ) (end k place : ℕ) (a : Area) → end ≤ length m → area_at m end k place ≡ Ok a → AreaStands m place a × (lawful_area a ≡ true)
area_told m end k place a long e =
    let line = then_ok (number_at m end (in_field k place) 2) _ _ e in
    let column = then_ok (number_at m end (in_field k (place + 2)) 2) _ _ line.2 in
    let height = then_ok (tested_at m end (in_field k (place + 4)) 2 (λ h. leb 1 h && leb (line.0 + h) 15)) _ _ column.2 in
    let width = then_ok (tested_at m end (in_field k (place + 6)) 2 (λ w. leb 1 w && leb (column.0 + w) 72)) _ _ height.2 in
    let l = number_at_told m end (in_field k place) 2 (place + 2) line.0 long refl line.1 in
    let c = number_at_told m end (in_field k (place + 2)) 2 (place + 4) column.0 long (omega arith) column.1 in
    let h = tested_told m end (in_field k (place + 4)) 2 (place + 6) _ height.0 long (omega arith) height.1 in
    let w = tested_told m end (in_field k (place + 6)) 2 (place + 8) _ width.0 long (omega arith) width.1 in
    let high = and_parts (leb 1 height.0) (leb (line.0 + height.0) 15) h.1 in
    let wide = and_parts (leb 1 width.0) (leb (column.0 + width.0) 72) w.1 in
    let made : Area = record { line = line.0; column = column.0; height = height.0; width = width.0 } in
    subst (λ x. AreaStands m place x × (lawful_area x ≡ true)) (ok_same made a width.2) (
      record { line = l.holds; column = c.holds; height = h.0.holds; width = w.0.holds },
      and_from (leb 1 height.0 && leb 1 width.0) _ (and_from (leb 1 height.0) _ high.0 wide.0) (and_from (leb (line.0 + height.0) 15) _ high.1 wide.1),
    )

area_read : (m : List ℕ) (end k place : ℕ) (a : Area) → place + 8 ≤ end → lawful_area a ≡ true → AreaStands m place a → area_at m end k place ≡ Ok a
area_read m end k place a within fine s =
    let both = and_parts (leb 1 a.height && leb 1 a.width) (leb (a.line + a.height) 15 && leb (a.column + a.width) 72) fine in
    let some = and_parts (leb 1 a.height) (leb 1 a.width) both.0 in
    let inside = and_parts (leb (a.line + a.height) 15) (leb (a.column + a.width) 72) both.1 in
    let high : a.line + a.height ≤ 15 = leb-true (a.line + a.height) 15 inside.0 in
    let wide : a.column + a.width ≤ 72 = leb-true (a.column + a.width) 72 inside.1 in
    then_go (number_at m end (in_field k place) 2) _ a.line _
    (number_at_read m end (in_field k place) 2 (place + 2) a.line (omega arith) (record { holds = s.line; below = omega arith; within = omega arith }))
    (then_go (number_at m end (in_field k (place + 2)) 2) _ a.column _
    (number_at_read m end (in_field k (place + 2)) 2 (place + 4) a.column (omega arith) (record { holds = s.column; below = omega arith; within = omega arith }))
    (then_go (tested_at m end (in_field k (place + 4)) 2 (λ h. leb 1 h && leb (a.line + h) 15)) _ a.height _
    (tested_read m end (in_field k (place + 4)) 2 (place + 6) _ a.height (omega arith) (record { holds = s.height; below = omega arith; within = omega arith }) (and_from (leb 1 a.height) _ some.0 inside.0))
    (then_go (tested_at m end (in_field k (place + 6)) 2 (λ w. leb 1 w && leb (a.column + w) 72)) _ a.width _
    (tested_read m end (in_field k (place + 6)) 2 (place + 8) _ a.width (omega arith) (record { holds = s.width; below = omega arith; within = omega arith }) (and_from (leb 1 a.width) _ some.1 inside.1))
    refl)))

pub length_field : (f : ℕ → Option (List ℕ)) (x : Field) → length (field_bytes f x) ≡ 13 + length (text_bytes f x.characters)
length_field f x = simp length-append (omega arith)

-- the items of a field that stands from a place to place q
record ItemsStand (f : ℕ → Option (List ℕ)) (m : List ℕ) (place q : ℕ) (x : Field) : Type 0 where
  area : AreaStands m place x.area
  formatting : Stands m (place + 8) (place + 9) (digits 1 x.formatting)
  size : Stands m (place + 9) (place + 13) (digits 4 (length (text_bytes f x.characters)))
  text : Stands m (place + 13) q (text_bytes f x.characters)

items_stand : (f : ℕ → Option (List ℕ)) (m : List ℕ) (place q : ℕ) (x : Field) → Stands m place q (field_bytes f x) → ItemsStand f m place q x
items_stand f m place q x h =
    let line = stands_cut m (digits 2 x.area.line) _ place (place + 2) _ refl h in
    let column = stands_cut m (digits 2 x.area.column) _ (place + 2) (place + 4) _ (omega (arith, length_digits 2 x.area.column)) line.1 in
    let height = stands_cut m (digits 2 x.area.height) _ (place + 4) (place + 6) _ (omega (arith, length_digits 2 x.area.height)) column.1 in
    let width = stands_cut m (digits 2 x.area.width) _ (place + 6) (place + 8) _ (omega (arith, length_digits 2 x.area.width)) height.1 in
    let formatting = stands_cut m (digits 1 x.formatting) _ (place + 8) (place + 9) _ (omega (arith, length_digits 1 x.formatting)) width.1 in
    let size = stands_cut m (digits 4 (length (text_bytes f x.characters))) (text_bytes f x.characters) (place + 9) (place + 13) _ (omega (arith, length_digits 4 (length (text_bytes f x.characters)))) formatting.1 in
    record { area = record { line = line.0; column = column.0; height = height.0; width = width.0 }; formatting = formatting.0; size = size.0; text = size.1 }

-- the text stands behind the other items' 13 bytes
pub text_stands : (f : ℕ → Option (List ℕ)) (m : List ℕ) (place q : ℕ) (x : Field) → Stands m place q (field_bytes f x) → Stands m (place + 13) q (text_bytes f x.characters)
text_stands f m place q x h = (items_stand f m place q x h).text

-- a lawful field stands at a place of a body that ends at another, and there is room for the n bytes of its text
pub record FieldStands (f : ℕ → Option (List ℕ)) (m : List ℕ) (end room place : ℕ) (x : Field) (n : ℕ) : Type 0 where
  pub lawful : LawfulField f x
  pub size : length (text_bytes f x.characters) ≡ n
  pub short : n ≤ 9999
  pub holds : Stands m place (place + 13 + n) (field_bytes f x)
  pub within : place + 13 + n ≤ end
  pub fits : n ≤ room

module _ (f : ℕ → Option (List ℕ)) (short : OneToFour f) (bounded : OfCharacters f) (apart : PrefixFree f) where
  pub field_told : (m : List ℕ) (end room k place : ℕ) (x : ReadField) → end ≤ length m → field_at f m end room k place ≡ Ok x → FieldStands f m end room place x.field x.size
  field_told m end room k place x long e =
      let area = then_ok (lift Record (area_at m end k place)) _ _ e in
      let formatting = then_ok (lift Record (tested_at m end (in_field k (place + 8)) 1 lawful_formatting)) _ _ area.2 in
      let size = then_ok (lift Record (number_at m end (in_field k (place + 9)) 4)) _ _ formatting.2 in
      let fit = then_ok (demand (leb size.0 room) (SheetOwn MemoryExceeded (in_field k (place + 9)))) _ _ size.2 in
      let body = then_ok (lift Record (in_body end (in_field k (place + 13)) size.0)) _ _ fit.2 in
      let text = then_ok (lift Record (text_at f area.0 m (in_field k (place + 13)) size.0)) _ _ body.2 in
      let a = area_told m end k place area.0 long (lift_ok Record (area_at m end k place) area.0 area.1) in
      let g = tested_told m end (in_field k (place + 8)) 1 (place + 9) lawful_formatting formatting.0 long (omega arith) (lift_ok Record (tested_at m end (in_field k (place + 8)) 1 lawful_formatting) formatting.0 formatting.1) in
      let n = number_at_told m end (in_field k (place + 9)) 4 (place + 13) size.0 long (omega arith) (lift_ok Record (number_at m end (in_field k (place + 9)) 4) size.0 size.1) in
      let within : place + 13 + size.0 ≤ end = in_body_told end (in_field k (place + 13)) size.0 _ (lift_ok Record (in_body end (in_field k (place + 13)) size.0) _ body.1) in
      let bytes : List ℕ = part m (place + 13) size.0 in
      let t = text_told f area.0 bytes text.0 short bounded (lift_ok (text_fault (in_field k (place + 13))) (text_in f area.0 bytes) text.0 (lift_ok Record (text_at f area.0 m (in_field k (place + 13)) size.0) text.0 text.1)) in
      let same : text_bytes f text.0 ≡ bytes = ap or_none t.0.spelled in
      let behind : Stands m (place + 13) (place + 13 + size.0) (text_bytes f text.0) = stands m (text_bytes f text.0) (place + 13) size.0 (place + 13 + size.0) refl (omega arith) (sym same) in
      let counted : length (text_bytes f text.0) ≡ size.0 = omega (arith, behind.ends) in
      let number : Stands m (place + 9) (place + 13) (digits 4 (length (text_bytes f text.0))) = subst (λ j. Stands m (place + 9) (place + 13) (digits 4 j)) (sym counted) n.holds in
      let made : ReadField = record { field = record { area = area.0; formatting = formatting.0; characters = text.0 }; size = size.0 } in
      let all : FieldStands f m end room place made.field made.size = record {
        lawful = record { area = a.1; formatting = g.1; text = subst (Text f TicketText text.0) (sym same) t.0; fit = t.1 };
        size = counted;
        short = omega (arith, n.below);
        holds =
            stands_join m _ _ place (place + 2) _ a.0.line
            (stands_join m _ _ (place + 2) (place + 4) _ a.0.column
            (stands_join m _ _ (place + 4) (place + 6) _ a.0.height
            (stands_join m _ _ (place + 6) (place + 8) _ a.0.width
            (stands_join m _ _ (place + 8) (place + 9) _ g.0.holds
            (stands_join m _ _ (place + 9) (place + 13) _ number behind)))));
        within = within;
        fits = leb-true size.0 room (demand_ok (leb size.0 room) _ _ fit.1);
      } in
      subst (λ y. FieldStands f m end room place y.field y.size) (ok_same made x text.2) all

  pub field_read : (m : List ℕ) (end room k place : ℕ) (x : Field) (n : ℕ) → FieldStands f m end room place x n → field_at f m end room k place ≡ Ok (record { field = x; size = n })
  field_read m end room k place x n h =
      let l : length (text_bytes f x.characters) ≡ n = h.size in
      let within : place + 13 + n ≤ end = h.within in
      let items = items_stand f m place (place + 13 + n) x h.holds in
      let bold : x.formatting ≤ 7 = leb-true x.formatting 7 h.lawful.formatting in
      let area : area_at m end k place ≡ Ok x.area =
      area_read m end k place x.area (omega arith) h.lawful.area items.area in
      let number : number_at m end (in_field k (place + 9)) 4 ≡ Ok n =
      number_at_read m end (in_field k (place + 9)) 4 (place + 13) n (omega arith)
      (record { holds = subst (λ j. Stands m (place + 9) (place + 13) (digits 4 j)) l items.size; below = omega (arith, h.short); within = omega arith }) in
      let bytes : part m (place + 13) n ≡ text_bytes f x.characters = stands_part m (text_bytes f x.characters) (place + 13) n (place + 13 + n) l items.text in
      let text : text_in f x.area (part m (place + 13) n) ≡ Ok x.characters =
      ap (text_in f x.area) bytes ∙ text_read f x.area (text_bytes f x.characters) x.characters short bounded apart h.lawful.text h.lawful.fit in
      then_go (lift Record (area_at m end k place)) _ x.area _ (ap (lift Record) area)
      (then_go (lift Record (tested_at m end (in_field k (place + 8)) 1 lawful_formatting)) _ x.formatting _
      (ap (lift Record) (tested_read m end (in_field k (place + 8)) 1 (place + 9) lawful_formatting x.formatting (omega arith) (record { holds = items.formatting; below = omega arith; within = omega arith }) h.lawful.formatting))
      (then_go (lift Record (number_at m end (in_field k (place + 9)) 4)) _ n _ (ap (lift Record) number)
      (then_go (demand (leb n room) (SheetOwn MemoryExceeded (in_field k (place + 9)))) _ tt _ (demand_go (leb n room) _ (le-leb n room h.fits))
      (then_go (lift Record (in_body end (in_field k (place + 13)) n)) _ tt _ (ap (lift Record) (in_body_read end (in_field k (place + 13)) n within))
      (then_go (lift Record (text_at f x.area m (in_field k (place + 13)) n)) _ x.characters _ (ap (λ r. lift Record (lift (text_fault (in_field k (place + 13))) r)) text)
      refl)))))
