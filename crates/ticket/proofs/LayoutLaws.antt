-- The fields of a layout, one behind another: what is read is what stands there.
use Rattle.std.proofs.Common.{◌≡◌, ℕ, zero, suc, ◌+◌, ◌-◌, ◌≤◌, true, leb, List, [], ◌∷◌, length, Ok, codes, Option, sym, refl, ap, ◌∙◌, subst, arith}
use Rattle.std.proofs.lemmas.List.{length-append}
use Rattle.std.proofs.lemmas.Bool.{leb-true, le-leb}
use Rattle.std.proofs.lemmas.Slice.Eq.{bytes_eq-Decides}
use Rattle.std.specs.List.{AllByRecursion}
use Rattle.std.specs.Str.{bytes_eq}
use Rattle.refusal.specs.Chain.{lift, demand}
use Rattle.refusal.specs.declared.causes.RecordCause.TheVariants.{WrongLength, WrongStandard}
use Rattle.refusal.specs.declared.causes.SheetCause.TheVariants.{TooManyEntries}
use Rattle.refusal.specs.declared.faults.RecordFault.TheVariants.{Own}
use Rattle.refusal.specs.declared.faults.SheetFault.TheVariants.{Record, Own as SheetOwn}
use Rattle.refusal.proofs.Chains.{ok_same, then_ok, then_go, lift_ok, demand_ok, demand_go}
use Rattle.octets.specs.Bytes.{part}
use Rattle.octets.specs.Digits.{digits}
use Rattle.octets.proofs.DigitLaws.{length_digits}
use Rattle.octets.proofs.PartLaws.{Stands, stands, stands_part, stands_to, stands_join, stands_cut}
use Rattle.field.specs.Fields.{Field}
use Rattle.record.specs.Start.{in_record}
use Rattle.text_code.specs.Spellings.{OneToFour, OfCharacters, PrefixFree}
use Rattle.ticket.specs.Lawful.{LawfulField, text_total}
use Rattle.ticket.specs.declared.room.Room.{Room}
use Rattle.ticket.specs.Reading.{in_body, number_at, ReadField, field_at, fields_at, size_all, fields_of, standard_at, count_at, layout_to}
use Rattle.ticket.specs.Tickets.{text_bytes, field_bytes, fields_bytes, layout_body}
use Rattle.ticket.proofs.FieldLaws.{in_body_read, number_at_told, number_at_read, length_field, field_told, field_read}

-- lawful fields stand from place p to place q of a body, and there is room for the bytes of their texts
pub record FieldsStand (f : ℕ → Option (List ℕ)) (m : List ℕ) (end room p q : ℕ) (xs : List Field) : Type 0 where
  pub lawful : AllByRecursion (LawfulField f) xs
  pub holds : Stands m p q (fields_bytes f xs)
  pub within : q ≤ end
  pub fits : text_total f xs ≤ room

-- fields with the numbers of their texts' bytes
abbrev pub sized : (ℕ → Option (List ℕ)) → List Field → List ReadField
sized f [] = []
sized f (x ∷ xs) = record { field = x; size = length (text_bytes f x.characters) } ∷ sized f xs

pub fields_sized : (f : ℕ → Option (List ℕ)) (xs : List Field) → fields_of (sized f xs) ≡ xs
fields_sized f [] = refl
fields_sized f (x ∷ xs) = ap (λ ys. x ∷ ys) (fields_sized f xs)

size_sized : (f : ℕ → Option (List ℕ)) (xs : List Field) → size_all (sized f xs) ≡ length (fields_bytes f xs)
size_sized f [] = refl
size_sized f (x ∷ xs) = omega (arith, size_sized f xs, length_field f x, length-append (field_bytes f x) (fields_bytes f xs))

few_fields : (f : ℕ → Option (List ℕ)) (xs : List Field) → length xs ≤ length (fields_bytes f xs)
few_fields f [] = omega arith
few_fields f (x ∷ xs) = omega (arith, few_fields f xs, length_field f x, length-append (field_bytes f x) (fields_bytes f xs))

-- the body of a layout stands from place 65 to its end, and its fields and their texts have room
pub record LayoutStands (f : ℕ → Option (List ℕ)) (m : List ℕ) (room : Room) (end : ℕ) (xs : List Field) : Type 0 where
  pub lawful : AllByRecursion (LawfulField f) xs
  pub holds : Stands m 65 end (layout_body f xs)
  pub fields : length xs ≤ room.fields
  pub texts : text_total f xs ≤ room.texts

module _ (f : ℕ → Option (List ℕ)) (short : OneToFour f) (bounded : OfCharacters f) (apart : PrefixFree f) where
  pub fields_told : (m : List ℕ) (end room n k place : ℕ) (xs : List ReadField) → end ≤ length m → place ≤ end → fields_at f m end room n k place ≡ Ok xs → FieldsStand f m end room place (place + size_all xs) (fields_of xs) × (length (fields_of xs) ≡ n)
  unfolding fields_at
  fields_told m end room zero k place xs long before e =
      subst (λ ys. FieldsStand f m end room place (place + size_all ys) (fields_of ys) × (length (fields_of ys) ≡ zero)) (ok_same [] xs e)
      (record { lawful = tt; holds = record { holds = refl; ends = refl }; within = omega arith; fits = omega arith }, refl)
  fields_told m end room (suc n) k place xs long before e =
      let a = then_ok (field_at f m end room k place) _ _ e in
      let x : ReadField = a.0 in
      let b = then_ok (fields_at f m end (room - x.size) n (k + 1) (place + 13 + x.size)) _ _ a.2 in
      let h = field_told f short bounded apart m end room k place x long a.1 in
      let t = fields_told m end (room - x.size) n (k + 1) (place + 13 + x.size) b.0 long h.within b.1 in
      subst (λ ys. FieldsStand f m end room place (place + size_all ys) (fields_of ys) × (length (fields_of ys) ≡ suc n)) (ok_same (x ∷ b.0) xs b.2) (
        record {
          lawful = (h.lawful, t.0.lawful);
          holds = stands_join m _ _ place (place + 13 + x.size) _ h.holds (stands_to m _ (place + 13 + x.size) (place + 13 + x.size + size_all b.0) _ (omega arith) t.0.holds);
          within = omega (arith, t.0.within);
          fits = omega (arith, h.size, h.fits, t.0.fits);
        },
        ap suc t.1,
      )

  fields_read : (m : List ℕ) (end room k p q : ℕ) (xs : List Field) → length (fields_bytes f xs) ≤ 9999 → FieldsStand f m end room p q xs → fields_at f m end room (length xs) k p ≡ Ok (sized f xs)
  unfolding fields_at
  fields_read m end room k p q [] few h = refl
  fields_read m end room k p q (x ∷ xs) few h =
      let n : ℕ = length (text_bytes f x.characters) in
      let l = length_field f x in
      let all = length-append (field_bytes f x) (fields_bytes f xs) in
      let c = stands_cut m (field_bytes f x) (fields_bytes f xs) p (p + 13 + n) q (omega arith) h.holds in
      let to : p + 13 + n ≤ end = omega (arith, c.1.ends, h.within) in
      then_go (field_at f m end room k p) _ (record { field = x; size = n }) _
      (field_read f short bounded apart m end room k p x n (record { lawful = h.lawful.0; size = refl; short = omega arith; holds = c.0; within = to; fits = omega (arith, h.fits) }))
      (then_go (fields_at f m end (room - n) (length xs) (k + 1) (p + 13 + n)) _ (sized f xs) _
      (fields_read m end (room - n) (k + 1) (p + 13 + n) q xs (omega arith) (record { lawful = h.lawful.1; holds = c.1; within = h.within; fits = omega (arith, h.fits) }))
      refl)

  pub layout_told : (m : List ℕ) (room : Room) (end : ℕ) (xs : List ReadField) → end ≤ length m → layout_to f m room end ≡ Ok xs → LayoutStands f m room end (fields_of xs)
  layout_told m room end xs long e =
      let counted = then_ok (count_at m room end) _ _ e in
      let n : ℕ = counted.0 in
      let read = then_ok (fields_at f m end room.texts n 0 73) _ _ counted.2 in
      let left = then_ok (lift Record (demand (leb end (73 + size_all read.0)) (Own WrongLength (in_record 1 (73 + size_all read.0))))) _ _ read.2 in
      let standard = then_ok (lift Record (standard_at m end)) _ _ counted.1 in
      let same = then_ok (in_body end (in_record 1 65) 4) _ _ (lift_ok Record (standard_at m end) standard.0 standard.1) in
      let number = then_ok (lift Record (number_at m end (in_record 1 69) 4)) _ _ standard.2 in
      let few = then_ok (demand (leb number.0 room.fields) (SheetOwn TooManyEntries (in_record 1 69))) _ _ number.2 in
      let is : number.0 ≡ n = ok_same number.0 n few.2 in
      let fit : number.0 ≤ room.fields = leb-true number.0 room.fields (demand_ok (leb number.0 room.fields) _ _ few.1) in
      let c = number_at_told m end (in_record 1 69) 4 73 number.0 long refl (lift_ok Record (number_at m end (in_record 1 69) 4) number.0 number.1) in
      let to : 73 ≤ end = c.within in
      let letters : part m 65 4 ≡ codes "RCT2" = (bytes_eq-Decides (part m 65 4) (codes "RCT2")).0 (demand_ok (bytes_eq (part m 65 4) (codes "RCT2")) (Own WrongStandard (in_record 1 65)) _ same.2) in
      let t = fields_told m end room.texts n 0 73 read.0 long to read.1 in
      let far : end ≤ 73 + size_all read.0 = leb-true end (73 + size_all read.0) (demand_ok (leb end (73 + size_all read.0)) _ _ (lift_ok Record (demand (leb end (73 + size_all read.0)) (Own WrongLength (in_record 1 (73 + size_all read.0)))) _ left.1)) in
      let size : number.0 ≡ length (fields_of read.0) = is ∙ sym t.1 in
      subst (λ ys. LayoutStands f m room end (fields_of ys)) (ok_same read.0 xs left.2)
      (record {
        lawful = t.0.lawful;
        holds =
            stands_join m (codes "RCT2") _ 65 69 end (stands m (codes "RCT2") 65 4 69 refl (omega arith) letters)
            (stands_join m (digits 4 (length (fields_of read.0))) _ 69 73 end (subst (λ j. Stands m 69 73 (digits 4 j)) size c.holds)
            (stands_to m _ 73 (73 + size_all read.0) end (omega (arith, t.0.within)) t.0.holds));
        fields = omega arith;
        texts = t.0.fits;
      })

  pub layout_read : (m : List ℕ) (room : Room) (end : ℕ) (xs : List Field) → length (layout_body f xs) ≤ 9999 → LayoutStands f m room end xs → layout_to f m room end ≡ Ok (sized f xs)
  layout_read m room end xs few h =
      let n : ℕ = length xs in
      let long : length (layout_body f xs) ≡ 8 + length (fields_bytes f xs) = simp length-append (omega arith) in
      let small : n ≤ length (fields_bytes f xs) = few_fields f xs in
      let letters = stands_cut m (codes "RCT2") _ 65 69 end refl h.holds in
      let number = stands_cut m (digits 4 n) (fields_bytes f xs) 69 73 end (omega (arith, length_digits 4 n)) letters.1 in
      let to : 73 + length (fields_bytes f xs) ≡ end = number.1.ends in
      let size : size_all (sized f xs) ≡ length (fields_bytes f xs) = size_sized f xs in
      let standard : bytes_eq (part m 65 4) (codes "RCT2") ≡ true = (bytes_eq-Decides (part m 65 4) (codes "RCT2")).1 (stands_part m (codes "RCT2") 65 4 69 refl letters.0) in
      let count : count_at m room end ≡ Ok n =
      then_go (lift Record (standard_at m end)) _ tt _
      (ap (lift Record) (then_go (in_body end (in_record 1 65) 4) _ tt _ (in_body_read end (in_record 1 65) 4 (omega arith)) (demand_go (bytes_eq (part m 65 4) (codes "RCT2")) _ standard)))
      (then_go (lift Record (number_at m end (in_record 1 69) 4)) _ n _
      (ap (lift Record) (number_at_read m end (in_record 1 69) 4 73 n (omega arith) (record { holds = number.0; below = omega arith; within = omega arith })))
      (then_go (demand (leb n room.fields) (SheetOwn TooManyEntries (in_record 1 69))) _ tt _ (demand_go (leb n room.fields) _ (le-leb n room.fields h.fields)) refl)) in
      then_go (count_at m room end) _ n _ count
      (then_go (fields_at f m end room.texts n 0 73) _ (sized f xs) _
      (fields_read m end room.texts 0 73 end xs (omega arith) (record { lawful = h.lawful; holds = number.1; within = omega arith; fits = h.texts }))
      (then_go (lift Record (demand (leb end (73 + size_all (sized f xs))) (Own WrongLength (in_record 1 (73 + size_all (sized f xs)))))) _ tt _
      (ap (lift Record) (demand_go (leb end (73 + size_all (sized f xs))) _ (le-leb end (73 + size_all (sized f xs)) (omega arith))))
      refl))
